use Rattle.std.proofs.Common.{◌≡◌, ℕ, ◌+◌, ◌≤◌, List, length}
use Rattle.std.specs.List.{AllByRecursion}
use Rattle.rs_version.specs.Writer.{IsReadyFor, Written, kept_of}
use Rattle.rs_intake_queue.specs.QueueRule.{IsPlaced}
use Rattle.rs_intake_line.specs.Done.{Told}
use Rattle.rs_intake_line.specs.Sending.{AreToPut}
use Rattle.rs_intake.specs.Together.{AreParts, jobs_of}
use Rattle.rs_intake.specs.Writers.{AreJobsDone}
use Rattle.rs_intake.proofs.ways_back.WaysBack.put_parts.Given as goal

-- the jobs that are left, and that all are done once these are
abbrev pub invariant-loop-parts : goal.invariant-loop-parts
invariant-loop-parts g l = AreParts l.parts.items l.rest.items
    × AllByRecursion (IsPlaced (length l.fn.self.senders.items)) (jobs_of l.parts.items l.rest.items)
    × (length l.self.senders.items ≡ length l.fn.self.senders.items)
    × AreToPut g.N.StoreName.limit (kept_of (g.S.StoreWriter.written l.writer)) l.rest.items
    × IsReadyFor (g.S.StoreWriter.ready l.writer) l.rest.items
    × (l.refused + length l.rest.items ≤ length l.fn.entries.items)
    × ((more : ℕ) (w : Written) (ways : List Told)
    → AreJobsDone g.N.StoreName.limit g.S.StoreWriter.most_held (g.S.StoreWriter.written l.writer) l.self.senders.items (jobs_of l.parts.items l.rest.items) more w ways
    → AreJobsDone g.N.StoreName.limit g.S.StoreWriter.most_held (g.S.StoreWriter.written l.fn.writer) l.fn.self.senders.items (jobs_of l.fn.parts.items l.fn.entries.items) (l.refused + more) w ways)

abbrev pub decreases-loop-parts : goal.decreases-loop-parts
decreases-loop-parts g l = length l.parts.items
