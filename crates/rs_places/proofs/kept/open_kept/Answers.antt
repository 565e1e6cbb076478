use Rattle.std.proofs.Common.{List, sym, ap, subst, ◌∙◌}
use Rattle.rs_message.specs.declared.entry.Entry.{Entry}
use Rattle.rs_journal_writer.specs.State.{Stores}
use Rattle.rs_version.specs.Writer.{Written, shows}
use Rattle.rs_places.proofs.kept.open_kept.Goals as goal

pub new-writer-requires-clause-none : goal.new-writer-requires-clause-none
new-writer-requires-clause-none g c = ap (λ (w : Written). w.held) c.in_ok-writer.ensures.writer

pub new-writer-requires-clause-stored : goal.new-writer-requires-clause-stored
new-writer-requires-clause-stored g c =
    let S : List Entry → Type 0 = λ l. Stores c.args.journal l in
    subst S (sym (ap (λ (w : Written). w.published) c.in_ok-writer.ensures.writer)) c.requires.stored

pub returns-clause-written : goal.returns-clause-written
returns-clause-written g c = c.new-writer.ensures.written ∙ ap (λ (w : Written). shows w.published) c.in_ok-writer.ensures.writer
