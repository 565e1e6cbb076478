use Rattle.std.proofs.Common.{◌≡◌, ◌+◌, ◌<◌, ◌≤◌, ◌^◌, ◌++◌, length}
use Rattle.std.specs.List.{AllByRecursion}
use Rattle.rs_store.specs.History.{SerialsRise}
use Rattle.rs_intake_queue.specs.QueueRule.{AreEnds, IsPlaced, ends_of, entries_of}
use Rattle.rs_intake.specs.declared.together.TheConstants.{MAX_TOGETHER}
use Rattle.rs_intake.proofs.gathering.gather.Given as goal

abbrev pub invariant-loop : goal.invariant-loop
invariant-loop g l = (l.received.entries ≡ l.fn.received.entries ++ entries_of l.jobs.jobs)
    × SerialsRise l.received.entries
    × (l.received.ends ≡ l.fn.received.ends ++ ends_of l.jobs.jobs)
    × AreEnds g.N.LineName.places l.received.ends
    × AllByRecursion (IsPlaced g.N.LineName.places) l.jobs.jobs
    × (0 < length l.jobs.jobs)
    × (length (entries_of l.jobs.jobs) ≤ MAX_TOGETHER)
    × (l.taken + length (entries_of l.jobs.jobs) < 2 ^ 64)
