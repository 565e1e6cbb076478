use Rattle.std.proofs.Common.{rules}
use Rattle.rs_session.proofs.Expecting.{by_answer}
use Rattle.rs_session.proofs.Certain.{by_submit_certain}
use Rattle.rs_session.proofs.open.Open.submit.Goals as goal

pub returns-clause-list : goal.returns-clause-list
returns-clause-list g c = search rules

pub returns-clause-mark : goal.returns-clause-mark
returns-clause-mark g c = c.submit-submitted.ensures.mark

pub returns-clause-sent : goal.returns-clause-sent
returns-clause-sent g c = c.submit-submitted.ensures.sent

pub returns-clause-pending : goal.returns-clause-pending
returns-clause-pending g c = by_answer c.args.operation _ _ c.submit-submitted.result c.args.qos c.args.id _ _ _ c.effect_of_submit.ensures c.submit-submitted.ensures.pending

pub returns-clause-certain : goal.returns-clause-certain
returns-clause-certain g c = λ none. by_submit_certain c.submit-submitted.result c.args.qos c.args.id (g.G.Gate.mark c.args.gate.now) (g.G.Gate.mark c.submit-submitted.new.self) _ c.effect_of_submit.ensures (c.submit-submitted.ensures.list none.0 none.1).3.used none.3
