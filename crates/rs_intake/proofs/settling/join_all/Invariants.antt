use Rattle.std.proofs.Common.{◌≡◌, ◌<◌, ◌++◌, List, length}
use Rattle.rs_intake_queue.specs.declared.job.Job.{Job}
use Rattle.rs_intake.specs.Settling.{Covers, IsBalanced}
use Rattle.rs_intake.proofs.settling.join_all.Given as goal

abbrev pub invariant-loop-end : goal.invariant-loop-end
invariant-loop-end g l = (l.taken.entries ≡ l.fn.taken.entries) × Covers l.taken.whole l.yielded
    × (0 < length l.yielded → (items : List Job) × IsBalanced g.N.LineName.places l.taken items)
    × (l.yielded ++ l.end-iterator.rest.items ≡ l.fn.ends.items)
    × (l.taken.ends ≡ l.fn.taken.ends)
