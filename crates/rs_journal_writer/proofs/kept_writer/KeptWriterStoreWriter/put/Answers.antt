use Rattle.std.proofs.Common.{◌∙◌, ap}
use Rattle.rs_journal_writer.specs.Keeping.{KeptValue}
use Rattle.rs_journal_writer.proofs.Parts.{next_of, none_ready}
use Rattle.rs_journal_writer.proofs.kept_writer.KeptWriterStoreWriter.put.Goals as goal

pub put_ready-requires : goal.put_ready-requires
put_ready-requires g c =
    let s = c.self.inside in
    next_of c.args.self.now.ready c.args.entry c.requires.next
    (λ none. let zero = none_ready s.waiting.items s.ready c.self.invariant.counted (ap (λ (k : KeptValue). k.ready) c.self.view_is ∙ none) in absurd (c.if-self-eq0.false zero))
