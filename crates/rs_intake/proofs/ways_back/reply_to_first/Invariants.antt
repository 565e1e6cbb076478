use Rattle.std.proofs.Common.{◌≡◌, ℕ, ◌+◌, ◌-◌, ◌≤◌, length, take}
use Rattle.std.specs.Prelude.{vec_capacity}
use Rattle.rs_version.specs.Writer.{IsReadyFor, kept_of}
use Rattle.rs_intake_line.specs.Sending.{AreToPut, ArePut}
use Rattle.rs_intake.proofs.ways_back.reply_to_first.Given as goal

abbrev pub invariant-loop-rest : goal.invariant-loop-rest
invariant-loop-rest g l = AreToPut g.N.StoreName.limit (kept_of (g.S.StoreWriter.written l.writer)) l.rest.items
    × ArePut g.N.StoreName.limit g.S.StoreWriter.most_held (g.S.StoreWriter.written l.fn.writer) l.fn.has_held l.fn.rest.items l.replies.items l.refused l.has_held l.rest.items (g.S.StoreWriter.written l.writer)
    × (length l.replies.items + length l.rest.items ≡ length l.fn.rest.items)
    × (l.refused ≤ length l.replies.items)
    × (l.count ≤ vec_capacity l.replies)
    × (length l.replies.items ≤ l.count)
    × ((n : ℕ) → l.count ≤ n → IsReadyFor (g.S.StoreWriter.ready l.fn.writer) (take n l.fn.rest.items)
    → IsReadyFor (g.S.StoreWriter.ready l.writer) (take (n - length l.replies.items) l.rest.items))

abbrev pub decreases-loop-rest : goal.decreases-loop-rest
decreases-loop-rest g l = length l.rest.items
