use Rattle.std.proofs.Common.{◌≢◌, ℕ, ◌<◌, ◌≤◌, length, slice_index}
use Rattle.rs_journal.proofs.pages.checking.last_place.Given as goal

abbrev pub invariant-loop-at : goal.invariant-loop-at
invariant-loop-at l = (l.at ≤ length l.numbers) × ((i : ℕ) → l.at ≤ i → i < length l.numbers → slice_index l.numbers i ≢ l.number)

abbrev pub decreases-loop-at : goal.decreases-loop-at
decreases-loop-at l = l.at
