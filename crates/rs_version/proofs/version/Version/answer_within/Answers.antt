use Rattle.std.proofs.Common.{sym, subst}
use Rattle.std.proofs.lemmas.Result.{IfOk-weaker}
use Rattle.rs_store.specs.History.{IsAnswerWithin}
use Rattle.rs_store.proofs.Standing.{retained_answer_within}
use Rattle.rs_version.specs.Catalogues.{retained_in}
use Rattle.rs_version.proofs.version.Version.answer_within.Goals as goal

pub returns : goal.returns
returns g c =
    let list = c.self.inside.list in
    IfOk-weaker c.answer_within.result _ _ (λ answer is. rw (← c.self.view_is) (subst (IsAnswerWithin c.args.room list c.args.filter.now c.args.now) (sym is)
    (retained_answer_within c.args.room (retained_in c.self.inside.messages) list c.args.filter.now c.args.now c.self.invariant))) c.answer_within.ensures
