-- What is planned are the next inputs, at most one for each round, and all have changes if all but the last had.
use Rattle.std.proofs.Common.{◌≤◌, max, length}
use Rattle.std.specs.List.{All}
use Rattle.rs_session.specs.Pending.{HasChange}
use Rattle.rs_server.specs.Conversation.{AllButLastHaveChanges, Plans}
use Rattle.rs_server.proofs.plan.look_ahead.Given as goal

abbrev pub invariant-next : goal.invariant-next
invariant-next g l = record {
  plans : Plans l.initial.planned.items l.planned.items l.initial.buffered.items l.buffered.items (g.C.Clock.moments l.initial.clock) (g.C.Clock.moments l.clock);
  few : length l.planned.items ≤ l.count;
  rounds : l.count ≤ max (length l.initial.planned.items) l.most;
  changes : AllButLastHaveChanges l.initial.planned.items → All HasChange l.planned.items;
}
