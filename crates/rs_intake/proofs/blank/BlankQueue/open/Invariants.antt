use Rattle.std.proofs.Common.{◌≡◌, [], length, replicate, true, false}
use Rattle.crossbeam_channel.specs.Claims.{view}
use Rattle.crossbeam_channel.specs.Ends.{sends_on}
use Rattle.rs_intake_line.specs.Names.{IsQueue, IsIn}
use Rattle.rs_intake_line.specs.Done.{untold}
use Rattle.rs_intake_line.specs.Lines.{new_lines}
use Rattle.rs_intake.proofs.blank.BlankQueue.open.Given as goal

abbrev pub invariant-loop-before : goal.invariant-loop-before
invariant-loop-before g l = IsQueue g.N.LineName.queue (sends_on l.sender) × IsIn g.N.LineName.queue l.pass
    × ((view l.pass).takes ≡ true) × ((view l.pass).sends ≡ false) × ((view l.pass).known ≡ []) × ((view l.pass).entries ≡ []) × ((view l.pass).ends ≡ []) × ((view l.pass).made ≡ l.before)
    × (l.lines.items ≡ new_lines l.before) × (length l.replies.items ≡ l.before) × (l.replies.items ≡ replicate l.before untold)
