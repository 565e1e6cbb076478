use Rattle.std.proofs.Common.{◌≡◌, ◌<◌, ◌⊎◌, ⊎_elim, inl, inr, ◌++◌, ◌∷◌, [], ℕ, List, Ok, Err, refl, sym, ap, subst, ◌∙◌, arith, append-nil}
use mathlib.Core.List.{IsPrefix}
use Rattle.std.proofs.lemmas.Result.{err_from_is_err_and}
use Rattle.rs_message.specs.declared.entry.Entry.{Entry}
use Rattle.rs_message.specs.declared.fault.SubmitFault.{SubmitFault}
use Rattle.rs_session.specs.Gate.{Mark, Submits, TakesPending}
use Rattle.rs_message.specs.declared.fault.SubmitFault.TheVariants.{Strange}
use Rattle.rs_intake_queue.specs.Changes.{entry_at}
use Rattle.rs_intake_line.specs.Lines.{next_serial}
use Rattle.rs_intake_line.proofs.Faults.{ok_not_err, refused_as}
use Rattle.rs_places.specs.Gates.{IsOtherPending, mark_of}
use Rattle.rs_places_steps.specs.Shared.{SharedValue, operations_of}
use Rattle.rs_places.proofs.Submitting.{other_pending, same_mark, sends_it, submits_err, takes_pending, used_if_open}
use Rattle.rs_places_steps.proofs.Receipts.{submits_ok}
use Rattle.rs_places.proofs.shared_gate.SharedGate.hand_over.Goals as goal

pub returns-clause-list : goal.returns-clause-list
returns-clause-list g c = λ seen knows.
    let list = c.learn.new.known in
    let receipt = c.in_ok-receipt.receipt in
    let line = c.submit.new.line in
    let old : Mark = c.args.self.now.mark in
    let new : Mark = mark_of line in
    let plain : mark_of c.self.inside.line ≡ old = ap (λ (v : SharedValue). v.mark) c.self.view_is in
    let known : c.self.inside.known ≡ seen = ap (λ (v : SharedValue). v.known) c.self.view_is ∙ knows.known in
    let serial : c.self.inside.line.serial ≡ old.serial = ap (λ (m : Mark). m.serial) plain in
    let told : c.told.result ≡ receipt.told = c.told.ensures.told in
    let own = c.learn.ensures.own in
    let one : (list ≡ seen) ⊎ (list ≡ receipt.told) = ⊎_elim (λ (t : list ≡ c.self.inside.known). inl (t ∙ known)) (λ (t : list ≡ c.told.result). inr (t ∙ told)) c.learn.ensures.one in
    let P : List Entry → Type 0 = λ l. IsPrefix l list in
    let prefix : IsPrefix receipt.told list = subst P told c.learn.ensures.told in
    let is : receipt.entry ≡ entry_at line.place line.serial c.args.operation = c.in_ok-receipt.ensures.entry ∙ ap (λ (p : ℕ). entry_at p line.serial c.args.operation) (sym c.submit.ensures.place) in
    let above : old.serial < line.serial = omega (arith, serial, c.in_ok-receipt.ensures.above) in (
      list,
      record { known = refl; legal = c.learn.ensures.legal },
      (own.0, sym own.1 ∙ ap (λ l. l ++ own.0) known),
      submits_ok g.N.StoreName.limit c.args.operation old new seen list receipt.told receipt.entry receipt.number c.in_ok-receipt.ensures.legal c.in_ok-receipt.ensures.stands is one prefix above
          (sends_it c.args.operation old c.self.inside.line line plain c.submit.ensures.place (c.in_ok-receipt.ensures.last ∙ ap (λ (e : Entry). c.self.inside.line.sent ++ e ∷ []) c.in_ok-receipt.ensures.entry)),
    )

pub returns-in_err-receipt-clause-list : goal.returns-in_err-receipt-clause-list
returns-in_err-receipt-clause-list g c = λ seen knows.
    let p = err_from_is_err_and c.from_residual.result c.from_residual.ensures.1 in
    let old = c.self.inside.line in
    let new = c.submit.new.line in
    let plain : mark_of old ≡ c.args.self.now.mark = ap (λ (v : SharedValue). v.mark) c.self.view_is in
    let known : c.self.inside.known ≡ seen = ap (λ (v : SharedValue). v.known) c.self.view_is ∙ knows.known in
    let used = used_if_open old new _ _ c.in_err-receipt.ensures.refused in
    let is : c.from_residual.result ≡ Err _ = p.1 ∙ ap (λ (f : SubmitFault). Err f) p.2 in (
      seen,
      record { known = known; legal = knows.legal },
      ([], sym (append-nil seen)),
      subst (λ (m : Mark). Submits c.args.operation m (mark_of new) c.from_residual.result seen seen) plain (submits_err c.args.operation (mark_of old) (mark_of new) c.from_residual.result _ seen is used),
    )

pub returns-clause-pending : goal.returns-clause-pending
returns-clause-pending g c =
    let s = c.submit.ensures in
    let old = c.self.inside.line in
    let new = c.submit.new.line in
    let P : SharedValue → Type 0 = λ v. TakesPending c.args.operation v.mark (mark_of new) (Ok tt) v.pending (operations_of new.ahead) in
    subst P c.self.view_is (takes_pending old.ahead new.ahead c.args.operation (mark_of old) (mark_of new) (Ok tt) s.ahead
    (λ other. absurd (ok_not_err _ _ _ c.in_ok-receipt.was (s.other other).0)))

pub returns-in_err-receipt-clause-pending : goal.returns-in_err-receipt-clause-pending
returns-in_err-receipt-clause-pending g c =
    let s = c.submit.ensures in
    let p = err_from_is_err_and c.from_residual.result c.from_residual.ensures.1 in
    let old = c.self.inside.line in
    let new = c.submit.new.line in
    let P : SharedValue → Type 0 = λ v. TakesPending c.args.operation v.mark (mark_of new) c.from_residual.result v.pending (operations_of new.ahead) in
    subst P c.self.view_is (takes_pending old.ahead new.ahead c.args.operation (mark_of old) (mark_of new) c.from_residual.result s.ahead
    (λ other. let o = s.other other in (refused_as _ _ _ _ _ c.in_err-receipt.was o.0 p.1 p.2, same_mark old new s.place o.1 o.2)))

pub returns-clause-serial : goal.returns-clause-serial
returns-clause-serial g c =
    let s = c.submit.ensures in
    let new = c.submit.new.line in
    let P : SharedValue → Type 0 = λ v. (new.serial ≡ next_serial v.mark.serial) ⊎ ((Ok tt ≡ Err Strange) × (mark_of new ≡ v.mark) × IsOtherPending v.pending c.args.operation) in
    subst P c.self.view_is (⊎_elim (λ t. inl t) (λ other. absurd (ok_not_err _ _ _ c.in_ok-receipt.was (s.other other).0)) s.serial)

pub returns-in_err-receipt-clause-serial : goal.returns-in_err-receipt-clause-serial
returns-in_err-receipt-clause-serial g c =
    let s = c.submit.ensures in
    let p = err_from_is_err_and c.from_residual.result c.from_residual.ensures.1 in
    let old = c.self.inside.line in
    let new = c.submit.new.line in
    let P : SharedValue → Type 0 = λ v. (new.serial ≡ next_serial v.mark.serial) ⊎ ((c.from_residual.result ≡ Err Strange) × (mark_of new ≡ v.mark) × IsOtherPending v.pending c.args.operation) in
    subst P c.self.view_is (⊎_elim (λ t. inl t)
    (λ other. let o = s.other other in inr (refused_as _ _ _ _ _ c.in_err-receipt.was o.0 p.1 p.2, same_mark old new s.place o.1 o.2, other_pending old.ahead c.args.operation other)) s.serial)
