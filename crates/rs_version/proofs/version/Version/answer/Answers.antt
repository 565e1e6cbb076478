use Rattle.std.proofs.Common.{List, subst}
use Rattle.std.proofs.lemmas.Result.{IfOk-weaker}
use Rattle.rs_message.specs.declared.entry.Entry.{Entry}
use Rattle.rs_store.specs.History.{IsAnswer}
use Rattle.rs_store.proofs.Standing.{retained_answer}
use Rattle.rs_version.specs.Catalogues.{retained_in}
use Rattle.rs_version.proofs.version.Version.answer.Goals as goal

pub returns : goal.returns
returns g c =
    IfOk-weaker c.answer.result _ _ (λ found is. subst (λ (l : List Entry). IsAnswer l c.args.filter.now c.args.now found.items) c.self.view_is
    (rw is (retained_answer (retained_in c.self.inside.messages) c.self.inside.list c.args.filter.now c.args.now c.self.invariant))) c.answer.ensures
