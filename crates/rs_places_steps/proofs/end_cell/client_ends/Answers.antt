use Rattle.std.proofs.Common.{rules, Some, ap, sym, ◌∙◌}
use Rattle.rs_places_steps.specs.EndCell.{begun_in}
use Rattle.rs_places_steps.proofs.Beginnings.{same_begun}
use Rattle.rs_places_steps.proofs.EndCells.{shares}
use Rattle.rs_places_steps.proofs.end_cell.client_ends.Goals as goal

pub another-taking-requires-clause-rule : goal.another-taking-requires-clause-rule
another-taking-requires-clause-rule g c = shares begun_in _ _ _ c.in_ok-cell.ensures.said

pub invariant_of-own : goal.invariant_of-own
invariant_of-own g c =
    let begun = same_begun c.new.result c.new-2.result (c.new.ensures.turn ∙ sym c.new-2.ensures.turn) (c.new.ensures.gate ∙ sym c.new-2.ensures.gate) in
    record { of_cell = search rules; said = c.another-taking.ensures.rule.0 ∙ (c.in_ok-cell.ensures.said ∙ ap Some begun) }

pub invariant_of-other : goal.invariant_of-other
invariant_of-other g c =
    let begun = same_begun c.new.result c.new-3.result (c.new.ensures.turn ∙ sym c.new-3.ensures.turn) (c.new.ensures.gate ∙ sym c.new-3.ensures.gate) in
    record { of_cell = search rules; said = c.another-taking.ensures.rule.1 ∙ (c.in_ok-cell.ensures.said ∙ ap Some begun) }
