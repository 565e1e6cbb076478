use Rattle.std.specs.Prelude.{◌≡◌}
use Rattle.rs_places_steps.proofs.run.wait_end.Given as goal

abbrev pub invariant-loop : goal.invariant-loop
invariant-loop g l = l.end.begun ≡ l.fn.end.begun
