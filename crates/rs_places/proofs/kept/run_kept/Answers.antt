use denote.Exit.{no}
use denote.Param.Send.{arg_send, param_send}
use denote.Param.{copied, param}
use Rattle.std.proofs.Common.{◌≡◌, ◌++◌, List, sym, ap, subst, ◌∙◌, append-nil}
use Rattle.rs_message.specs.declared.entry.Entry.{Entry}
use Rattle.rs_journal_writer.specs.Keeping.{Survives}
use Rattle.rs_journal_writer.proofs.Sent.{kept_send}
use Rattle.rs_places.proofs.kept.run_kept.Goals as goal

pub run_writer_of-requires-send-S : goal.run_writer_of-requires-send-S
run_writer_of-requires-send-S g c κs within = param_send 1 _ (arg_send _ no _ (kept_send (param 0 g.row.N) (copied 4 g.row.H) (param 1 g.row.D) (param 2 g.row.C) g.N.StoreName g.D.Disk c.type_bounds.send-H c.type_bounds.send-D c.type_bounds.send-C))

pub returns-in-Ok : goal.returns-in-Ok
returns-in-Ok g c =
    let r = c.in-Ok.ensures.run in
    let w = c.in-Ok.writer in
    let held : w.written.held ++ w.ready ≡ r.run.writer.held = ap (λ (l : List Entry). w.written.held ++ l) c.in-Ok.ensures.idle ∙ (append-nil w.written.held ∙ sym r.held) in
    record {
      run = r.run;
      kept = λ image may.
          let P : List Entry → Type 0 = λ l. Survives l r.run.writer.held image in
          let H : List Entry → Type 0 = λ l. Survives w.written.published l image in
          subst P (sym r.published) (subst H held (c.into_journal.ensures image may));
    }
