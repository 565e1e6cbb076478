use Rattle.std.proofs.Common.{[], subst, sym, append-nil}
use Rattle.std.proofs.lemmas.Result.{IfOk-weaker}
use Rattle.rs_store.specs.History.{IsAnswerWithin}
use Rattle.rs_store.proofs.Standing.{stands_answer_within}
use Rattle.rs_session.specs.Local.{catalogue_of}
use Rattle.rs_session.proofs.local.LocalGateGate.answer_within.Goals as goal

pub returns-clause-list : goal.returns-clause-list
returns-clause-list g c = λ seen s. (
  seen,
  s,
  ([], sym (append-nil seen)),
  IfOk-weaker c.answer_within.result _ _
      (λ answer e. subst (IsAnswerWithin c.args.room seen c.args.filter.now c.args.now) (sym e)
      (stands_answer_within c.args.room (g.C.Catalogue.content (catalogue_of c.args.self.now)) seen c.args.filter.now c.args.now s)) (rw c.catalogue.ensures at c.answer_within.ensures),
)
