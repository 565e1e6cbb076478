use Rattle.std.proofs.Common.{◌≡◌, List, [], ◌∷◌, ◌++◌, length, ap, sym, ◌∙◌, append_assoc, append-nil, length-append, arith}
use Rattle.rs_intake.proofs.ways_back.WaysBack.end.Goals as goal

-- the first of those that are left is the next
one_next : {A : Type 0} (done more rest rest' whole : List A) (x : A) → more ≡ done ++ x ∷ [] → rest ≡ x ∷ rest' → done ++ rest ≡ whole → more ++ rest' ≡ whole
one_next done more rest rest' whole x pushed first so_far = ap (λ l. l ++ rest') pushed ∙ (append_assoc done (x ∷ []) rest' ∙ (ap (λ l. done ++ l) (sym first) ∙ so_far))

none_left : {A : Type 0} (done rest whole : List A) → done ++ rest ≡ whole → length rest ≡ 0 → done ≡ whole
none_left done [] whole so_far none = sym (append-nil done) ∙ so_far
none_left done (x ∷ rest) whole so_far none = absurd (omega (arith, none))

pub loop-sender-preserved : goal.loop-sender-preserved
loop-sender-preserved g c =
    let i = c.loop-sender.invariant in
    let pushed = c.in-Ok.ensures.items in
    let first = c.in-Some.ensures.steps.0 ∙ ap (λ x. x ∷ c.next.new.self.rest.items) (sym c.end.ensures) in
    let capacity = c.in-Ok.ensures.capacity in
    let n = ap length first in
    let m = ap length pushed in
    let sum = length-append c.loop-sender.ends.items (c.end.result ∷ []) in
    let fits = i.1 in
    (one_next _ _ _ _ _ c.end.result pushed first i.0, omega (arith, n, m, sum, fits, capacity))

pub returns : goal.returns
returns g c = none_left _ _ _ c.loop-sender.invariant.0 (sym c.loop-sender.sender-iterator.rest.ok.0 ∙ c.in-None.ensures.steps.0)
