use Rattle.std.proofs.Common.{◌≡◌}
use Rattle.rs_topic.specs.Matching.{fits}
use Rattle.rs_topic.proofs.matching.fits.Given as goal

abbrev pub invariant-loop-wanted : goal.invariant-loop-wanted
invariant-loop-wanted l =
    (goal.iterator-loop-wanted).can_next l.filter × (goal.iterator-loop-wanted).is_finite l.filter × (fits l.filter l.name ≡ fits l.fn.filter l.fn.name)
