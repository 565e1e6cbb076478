-- Why the writer's loop ended.
use Rattle.std.specs.Prelude.{ℕ, ◌≡◌, ◌+◌, ◌<◌, ◌≤◌, ◌^◌, ◌⊎◌, List, length}
use Rattle.rs_intake_line.specs.Lines.{Received}
use Rattle.rs_intake_queue.specs.QueueRule.{at_place}
use Rattle.rs_intake.specs.declared.cause.Cause.{Cause}
use Rattle.rs_intake_queue.specs.declared.job.TheConstants.{MAX_CHANGES}
use Rattle.rs_intake.specs.declared.cause.Cause.TheVariants.{AllEnded, MostTaken, QueueGone}

-- of each place there is one End
abbrev pub HaveEnded : ℕ → List ℕ → Type 0
HaveEnded places ends = (place : ℕ) → 0 < place → place ≤ places → length (at_place place ends) ≡ 1

-- Why the loop ended: one End of each place was taken; or as many entries as may be, or so many that one more job could have more
-- than can be counted; or a receive failed, of which no more is known
abbrev pub IsCause : ℕ → ℕ → Received → Cause → Type 0
IsCause places most received AllEnded = HaveEnded places received.ends
IsCause places most received MostTaken = (most ≤ length received.entries) ⊎ (2 ^ 64 ≤ length received.entries + MAX_CHANGES)
IsCause places most received (QueueGone gone) = Unit {0}
