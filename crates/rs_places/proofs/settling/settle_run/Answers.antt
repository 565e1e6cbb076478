use Rattle.std.proofs.Common.{List, ap, subst, sym, ◌∙◌}
use Rattle.rs_intake.specs.Settling.{AreTaken, AreTakenInOrder, EachOnce, sent_in_all}
use Rattle.rs_intake_queue.specs.Ends.{Closed}
use Rattle.rs_places.proofs.settling.settle_run.Goals as goal
use Rattle.rs_places.proofs.settling.settle_run.Goals.{in-Ok, in-Err}

pub returns-clause-turns : goal.returns-clause-turns
returns-clause-turns g c = c.part_ends-lines.ensures.turns

pub returns-clause-order : goal.returns-clause-order
returns-clause-order g c =
    let P : List Closed → Type 0 = λ l. AreTakenInOrder c.args.ended.received.entries l in
    subst P c.part_ends-lines.ensures.lines c.settle.ensures.order

pub returns-clause-settled : goal.returns-clause-settled
returns-clause-settled g c =
    let lines = c.part_ends-lines.ensures.lines in
    let entries = c.args.ended.received.entries in
    elim c.match-settle.branch [
      | in-Ok w ↦
          let P : List Closed → Type 0 = λ l. AreTaken entries l in
          let taken = subst P lines (rw w.in-Ok.is at c.settle.ensures.settled) in
          let count = rw w.in-Ok.is at c.settle.ensures.taken in
          let sum = rw w.in-Ok.is at c.settle.ensures.sum in
          rw w.changes-is (record { once = c.requires.once; taken = taken; entries_are = count ∙ c.args.ended.counted; sent = sum ∙ ap sent_in_all lines })
      | in-Err w ↦
          let P : List Closed → Type 0 = λ l. EachOnce g.N.LineName.places l in
          let once = subst P (sym lines) c.requires.once in
          let unsettled = rw w.in-Err.is at c.settle.ensures.unsettled in
          rw w.changes-is (λ same. unsettled (once, ap sent_in_all lines ∙ (same ∙ sym c.args.ended.counted)))
    ]

pub returns-clause-ended : goal.returns-clause-ended
returns-clause-ended g c = λ all.
    let P : List Closed → Type 0 = λ l. AreTaken c.args.ended.received.entries l in
    subst P c.part_ends-lines.ensures.lines (c.settle.ensures.ended all)
