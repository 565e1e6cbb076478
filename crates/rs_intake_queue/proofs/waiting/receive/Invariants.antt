use Rattle.std.proofs.Common.{◌≡◌}
use Rattle.crossbeam_channel.specs.Claims.{view, IsSeatAt}
use Rattle.crossbeam_channel.specs.Ends.{receives_on}
use Rattle.rs_intake_queue.proofs.waiting.receive.Given as goal

-- no poll has taken anything
abbrev pub invariant-loop-poll : goal.invariant-loop-poll
invariant-loop-poll g l = IsSeatAt (receives_on l.from) l.pass × (l.pass.id ≡ l.fn.pass.id) × (view l.pass ≡ view l.fn.pass)
