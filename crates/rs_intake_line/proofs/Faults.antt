-- How a submit ended.
use Rattle.std.proofs.Common.{◌≡◌, sym, ap, ◌∙◌}
use Rattle.std.specs.Prelude.{Result, Ok, Err}
use Rattle.rs_message.specs.declared.fault.SubmitFault.{SubmitFault}

pub ok_not_err : {A : Type 0} (r : Result A SubmitFault) (x : A) (f : SubmitFault) → r ≡ Ok x → r ≡ Err f → ⊥
ok_not_err {A} r x f was is =
    let both : (let o : Result A SubmitFault = Ok x in o) ≡ Err f = sym was ∙ is in
    cc (both)

pub refused_as : {A B : Type 0} (r : Result A SubmitFault) (q : Result B SubmitFault) (y e f : SubmitFault) → r ≡ Err e → r ≡ Err f → q ≡ Err y → y ≡ e → q ≡ Err f
refused_as {A} {B} r q y e f was is given same =
    let both : (let o : Result A SubmitFault = Err e in o) ≡ Err f = sym was ∙ is in
    let one : e ≡ f = cc (both) in
    let F : SubmitFault → Result B SubmitFault = λ x. Err x in
    given ∙ ap F (same ∙ one)
