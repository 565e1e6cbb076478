use Rattle.std.proofs.Common.{◌≡◌, ◌+◌, ◌≤◌, List, [], false, length}
use Rattle.rs_version.specs.Writer.{kept_of}
use Rattle.rs_intake_line.specs.Done.{ReplyValue}
use Rattle.rs_intake_line.specs.Sending.{AreSentNext, AreToPut, ArePut}
use Rattle.rs_intake_queue.specs.declared.job.TheConstants.{MAX_CHANGES}
use Rattle.rs_intake.proofs.ways_back.put_and_send.Given as goal

abbrev pub invariant-loop-alloc : goal.invariant-loop-alloc
invariant-loop-alloc g l = AreToPut g.N.StoreName.limit (kept_of (g.S.StoreWriter.written l.writer)) l.rest.items
    × ((replies : List ReplyValue) × ArePut g.N.StoreName.limit g.S.StoreWriter.most_held (g.S.StoreWriter.written l.fn.writer) false l.fn.changes.items replies l.refused l.has_held l.rest.items (g.S.StoreWriter.written l.writer) × AreSentNext l.fn.to replies l.to)
    × (l.refused + length l.rest.items ≤ MAX_CHANGES)
    × (g.S.StoreWriter.ready l.writer ≡ [])

abbrev pub decreases-loop-alloc : goal.decreases-loop-alloc
decreases-loop-alloc g l = length l.rest.items
