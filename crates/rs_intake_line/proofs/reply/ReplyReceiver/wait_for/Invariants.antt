use Rattle.std.proofs.Common.{◌≡◌, ◌+◌, ◌++◌, List, length}
use Rattle.rs_intake_line.specs.Done.{ReplyValue}
use Rattle.rs_intake_line.proofs.reply.ReplyReceiver.wait_for.Given as goal

-- so many replies were taken
abbrev pub invariant-loop-number : goal.invariant-loop-number
invariant-loop-number g l = ((more : List ReplyValue) × (l.self.heard ++ l.self.came ≡ l.fn.self.heard ++ l.fn.self.came ++ more)) × (length l.self.heard ≡ length l.fn.self.heard + l._number)
