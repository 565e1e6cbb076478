use Rattle.std.proofs.Common.{◌≡◌, ◌∷◌, ◌++◌, [], ◌∙◌, List, true, ap}
use Rattle.rs_session.specs.Points.{Given}
use Rattle.rs_server.proofs.plan.plan_next.Goals as goal

pub returns-clause-change : goal.returns-clause-change
returns-clause-change g c = λ is.
    let given : Given = c.incoming_of-incoming.result in
    let some : c.has_change-goes_on.result ≡ true = cc (is) in
    let grown : c.push_back_reserved.new.self.items ≡ c.args.planned.now.items ++ given ∷ [] = c.push_back_reserved.ensures.items ∙ ap (λ (l : List Given). l ++ given ∷ []) c.reserve.ensures.items in
    (given, grown, c.has_change-goes_on.ensures some)
