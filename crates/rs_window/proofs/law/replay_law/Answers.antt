use Rattle.rs_window.proofs.ReplayLemmas.{last_concerns, kinds_read, quota_holds, replayed, few_wait, fresh_id, nothing_given, answered}
use Rattle.rs_window.proofs.law.replay_law.Goals as goal

pub returns-clause-last : goal.returns-clause-last
returns-clause-last c = last_concerns

pub returns-clause-kinds : goal.returns-clause-kinds
returns-clause-kinds c = kinds_read

pub returns-clause-quota : goal.returns-clause-quota
returns-clause-quota c = quota_holds

pub returns-clause-replay : goal.returns-clause-replay
returns-clause-replay c = replayed

pub returns-clause-few : goal.returns-clause-few
returns-clause-few c = few_wait

pub returns-clause-identifiers : goal.returns-clause-identifiers
returns-clause-identifiers c = fresh_id

pub returns-clause-none : goal.returns-clause-none
returns-clause-none c = nothing_given

pub returns-clause-answers : goal.returns-clause-answers
returns-clause-answers c = answered
