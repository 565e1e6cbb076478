use Rattle.std.proofs.Common.{◌≡◌}
use Rattle.rs_topic.specs.Topics.{wildcards_fit}
use Rattle.rs_topic.proofs.filter.wildcards_fit.Given as goal

abbrev pub invariant-loop-level : goal.invariant-loop-level
invariant-loop-level l =
    (goal.iterator-loop-level).can_next l.rest × (goal.iterator-loop-level).is_finite l.rest × (wildcards_fit l.rest ≡ wildcards_fit l.fn.rest)
