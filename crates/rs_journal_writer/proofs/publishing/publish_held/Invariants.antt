use Rattle.std.proofs.Common.{◌≡◌, ◌≤◌, [], length}
use Rattle.rs_journal_writer.specs.State.{Moves}
use Rattle.rs_journal_writer.proofs.publishing.publish_held.Given as goal

abbrev pub invariant-loop-writer : goal.invariant-loop-writer
invariant-loop-writer g l = Moves l.fn.writer l.fn.waiting.items l.writer l.waiting.items × (l.ready ≤ length l.waiting.items) × (l.writer.held ≡ [])

abbrev pub decreases-loop-writer : goal.decreases-loop-writer
decreases-loop-writer g l = length l.waiting.items
