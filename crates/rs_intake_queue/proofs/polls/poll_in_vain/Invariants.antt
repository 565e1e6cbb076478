use Rattle.crossbeam_channel.specs.Claims.{IsSeatAt}
use Rattle.crossbeam_channel.specs.Ends.{receives_on}
use Rattle.rs_intake_queue.proofs.polls.poll_in_vain.Given as goal

-- the pass is one of the channel
abbrev pub invariant-loop : goal.invariant-loop
invariant-loop g l = IsSeatAt (receives_on l.from) l.pass
