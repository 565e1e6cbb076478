use Rattle.std.proofs.Common.{subst, ℕ}
use Rattle.rs_server.specs.Counts.{failures_of, inner_of}
use Rattle.rs_server.specs.Serving.{CausesEnd}
use Rattle.rs_server.proofs.serving.Serving.go_on.Goals as goal

pub returns-in-None-clause-underway : goal.returns-in-None-clause-underway
returns-in-None-clause-underway g c = λ from first unread written told h.
    c.handle.ensures.handled from first unread (g.R.Read.remaining (inner_of c.read_with.new.reader)) written told
    (c.in-None.ensures.read from first unread written (g.W.Write.contents (inner_of c.args.writer.now)) told h)

pub returns-in-None-clause-cause : goal.returns-in-None-clause-cause
returns-in-None-clause-cause g c =
    subst (λ (n : ℕ). CausesEnd c.handle.result n (failures_of c.read_with.new.reader) (failures_of c.args.writer.now) (failures_of c.handle.new.writer)) (c.in-None.ensures.cause 0).0
    (c.handle.ensures.cause (failures_of c.read_with.new.reader))
