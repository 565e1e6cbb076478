use Rattle.std.proofs.Common.{◌≡◌, ◌∙◌, List, map, ap, arith}
use Rattle.rs_intake_line.specs.Lines.{Line}
use Rattle.rs_places.specs.Gates.{handed_on}
use Rattle.rs_places.specs.Store.{new_gates}
use Rattle.rs_places.proofs.store.open_lines.Goals as goal

pub returns-clause-gates : goal.returns-clause-gates
returns-clause-gates g c = λ known all.
    c.in_ok-gates.ensures.same known all ∙ (ap (λ (lines : List Line). map (λ (line : Line). handed_on known line) lines) c.in_ok-intake.ensures ∙ ap (λ n. new_gates known n) c.requires.1)

pub returns-clause-capacity : goal.returns-clause-capacity
returns-clause-capacity g c = (omega (arith, c.len.ensures, c.in_ok-lines.ensures.capacity), omega (arith, c.len-2.ensures, c.in_ok-turns.ensures.capacity))
