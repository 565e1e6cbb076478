use Rattle.std.proofs.Common.{◌++◌, ap, subst}
use mathlib.Core.List.{IsPrefix}
use Rattle.rs_store.specs.History.{IsLegal}
use Rattle.rs_store.proofs.Histories.{legal_front}
use Rattle.rs_version.specs.Writer.{Written, kept_of}
use Rattle.rs_journal_writer.specs.Keeping.{KeptValue}
use Rattle.rs_journal_writer.specs.State.{ready_in, written_in}
use Rattle.rs_journal_writer.proofs.Parts.{covers, parts_kept}
use Rattle.rs_journal_writer.proofs.kept_writer.KeptWriterStoreWriter.note_covered.Goals as goal

pub returns-clause-prefix : goal.returns-clause-prefix
returns-clause-prefix g c =
    let s = c.self.inside in
    let now = ap (λ (k : KeptValue). k.written) c.self.view_is in
    subst (λ (w : Written). IsPrefix c.args.told.now (kept_of w)) now (covers s.writer s.waiting.items s.ready c.args.told.now c.note_covered.ensures.prefix)

pub returns-clause-legal : goal.returns-clause-legal
returns-clause-legal g c =
    let s = c.self.inside in
    let now = ap (λ (k : KeptValue). k.written) c.self.view_is in
    let limit = g.N.StoreName.limit in
    subst (λ (w : Written). IsLegal limit (kept_of w)) now
    (legal_front limit (kept_of (written_in s.writer s.waiting.items s.ready)) (kept_of s.writer ++ s.waiting.items)
    (ready_in s.waiting.items s.ready, parts_kept s.writer s.waiting.items s.ready) c.self.invariant.legal)
