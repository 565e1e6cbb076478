use Rattle.rs_server.proofs.Replaying.{run_opens, run_replays, replay_sends}
use Rattle.rs_server.proofs.run_laws.replay_of_run.Goals as goal

pub returns-clause-opened : goal.returns-clause-opened
returns-clause-opened c = run_opens

pub returns-clause-calls : goal.returns-clause-calls
returns-clause-calls c = run_replays

pub returns-clause-sent : goal.returns-clause-sent
returns-clause-sent c = replay_sends
