-- Clients on their way beside what they began with.
use Rattle.std.proofs.Common.{◌≡◌, List, [], ◌∷◌, ◌++◌, map, sym, ap, ◌∙◌, append_assoc}
use Rattle.std.proofs.lemmas.List.{append-nil, map-append}

-- one more is made of the next that is left
pub made_more : {A C : Type 0} (f : A → C) (made more : List A) (one : A) (rest left : List C) (next : C) (whole : List C)
    → more ≡ made ++ one ∷ [] → f one ≡ next → rest ≡ next ∷ left → map f made ++ rest ≡ whole → map f more ++ left ≡ whole
made_more f made more one rest left next whole pushed is first so_far =
    ap (λ l. map f l ++ left) pushed
    ∙ (ap (λ l. l ++ left) (map-append f made (one ∷ []))
    ∙ (append_assoc (map f made) (f one ∷ []) left
    ∙ (ap (λ c. map f made ++ c ∷ left) is ∙ (ap (λ l. map f made ++ l) (sym first) ∙ so_far))))

-- none is left
pub made_all : {A C : Type 0} (f : A → C) (made : List A) (rest whole : List C) → map f made ++ rest ≡ whole → rest ≡ [] → map f made ≡ whole
made_all f made rest whole so_far none = sym (append-nil (map f made)) ∙ (ap (λ l. map f made ++ l) (sym none) ∙ so_far)
