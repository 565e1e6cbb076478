use Rattle.std.proofs.Common.{◌≡◌, []}
use Rattle.rs_intake_line.proofs.reply.ReplyReceiver.wait.Given as goal

-- no reply came yet
abbrev pub invariant-loop : goal.invariant-loop
invariant-loop g l = (l.fn.self.came ≡ []) × (l.self.came ≡ []) × (l.self.heard ≡ l.fn.self.heard)
