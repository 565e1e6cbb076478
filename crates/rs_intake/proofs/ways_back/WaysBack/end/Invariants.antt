use Rattle.std.specs.Prelude.{◌≡◌, ◌+◌, ◌≤◌, ◌++◌, length, vec_capacity}
use Rattle.rs_intake.proofs.ways_back.WaysBack.end.Given as goal

-- the ends that were made, and then the senders that are left, tell what all senders told
abbrev pub invariant-loop-sender : goal.invariant-loop-sender
invariant-loop-sender g l = (l.ends.items ++ l.sender-iterator.rest.items ≡ l.fn.self.senders.items)
    × (length l.ends.items + length l.sender-iterator.rest.items ≤ vec_capacity l.ends)
