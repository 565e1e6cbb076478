use Rattle.std.proofs.Common.{◌≡◌, ◌<◌, ◌≤◌, ℕ, List, [], get_or, length}
use Rattle.rs_message.specs.declared.entry.Entry.{Entry}
use Rattle.rs_version.proofs.given.teach.Given as goal

-- the seats before this one have learned it, the others know nothing
abbrev pub invariant-loop-seat : goal.invariant-loop-seat
invariant-loop-seat g l = ((k : ℕ) (d : List Entry) → k < l.seat-index → get_or l.seats k d ≡ l.told)
    × ((k : ℕ) (d : List Entry) → l.seat-index ≤ k → k < length l.seats → get_or l.seats k d ≡ [])
