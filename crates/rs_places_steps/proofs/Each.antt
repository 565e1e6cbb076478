-- Lists that grow by one, and what holds of each of two lists.
use Rattle.std.proofs.Common.{◌≡◌, ◌+◌, List, [], ◌∷◌, ◌++◌, length, map, refl, sym, ap, subst, ◌∙◌, append_assoc, length-append, arith}
use Rattle.std.proofs.lemmas.List.{append-nil, map-append}
use Rattle.std.specs.List.{AllByRecursion, AllZip}

pub length_more : {A : Type 0} (xs more : List A) (x : A) → more ≡ xs ++ x ∷ [] → length more ≡ length xs + 1
length_more xs more x is = ap length is ∙ length-append xs (x ∷ [])

pub first_of_all : {A : Type 0} (ys : List A) (y : A) (rest left whole : List A) → ys ++ rest ≡ whole → rest ≡ y ∷ left → (ys ++ y ∷ []) ++ left ≡ whole
first_of_all ys y rest left whole is first = append_assoc ys (y ∷ []) left ∙ (ap (λ l. ys ++ l) (sym first) ∙ is)

pub each_more : {X Y : Type 0} (R : X → Y → Type 0) (xs : List X) (ys : List Y) (x : X) (y : Y) → AllZip R xs ys → R x y → AllZip R (xs ++ x ∷ []) (ys ++ y ∷ [])
each_more R [] [] x y all one = (one, tt)
each_more R [] (e ∷ es) x y all one = absurd all
each_more R (p ∷ ps) [] x y all one = absurd all
each_more R (p ∷ ps) (e ∷ es) x y all one = (all.0, each_more R ps es x y all.1 one)

-- one more was served
pub each_of_both : {A B X Y : Type 0} (R : X → Y → Type 0) (f : A → X) (h : B → Y) (xs : List A) (x : A) (ends more : List B) (end : B)
    → more ≡ ends ++ end ∷ [] → AllZip R (map f xs) (map h ends) → R (f x) (h end) → AllZip R (map f (xs ++ x ∷ [])) (map h more)
each_of_both {A} {B} {X} {Y} R f h xs x ends more end is all one =
    let P : List X → Type 0 = λ l. AllZip R l (map h more) in
    let Q : List Y → Type 0 = λ l. AllZip R (map f xs ++ f x ∷ []) l in
    let grown : map h more ≡ map h ends ++ h end ∷ [] = ap (map h) is ∙ map-append h ends (end ∷ []) in
    subst P (sym (map-append f xs (x ∷ []))) (subst Q (sym grown) (each_more R (map f xs) (map h ends) (f x) (h end) all one))

-- nothing is left
pub each_of_whole : {A X Y : Type 0} (R : X → Y → Type 0) (f : A → X) (xs rest whole : List A) (ends : List Y)
    → AllZip R (map f xs) ends → xs ++ rest ≡ whole → rest ≡ [] → AllZip R (map f whole) ends
each_of_whole {A} R f xs rest whole ends all is none =
    let P : List A → Type 0 = λ l. AllZip R (map f l) ends in
    subst P (sym (append-nil xs) ∙ (ap (λ l. xs ++ l) (sym none) ∙ is)) all

pub each_length : {X Y : Type 0} (R : X → Y → Type 0) (xs : List X) (ys : List Y) → AllZip R xs ys → length xs ≡ length ys
each_length R [] [] each = refl
each_length R [] (end ∷ ys) each = absurd each
each_length R (x ∷ xs) [] each = absurd each
each_length R (x ∷ xs) (end ∷ ys) each = let h = each_length R xs ys each.1 in omega (arith, h)

-- what holds of each of both lists, with what holds of them together
pub each_with : {X Y : Type 0} (R S : X → Y → Type 0) (P : X → Type 0) (Q : Y → Type 0) → ((x : X) (y : Y) → R x y → P x → Q y → S x y)
    → (xs : List X) (ys : List Y) → AllZip R xs ys → AllByRecursion P xs → AllByRecursion Q ys → AllZip S xs ys
each_with R S P Q to [] [] each first second = tt
each_with R S P Q to [] (y ∷ ys) each first second = absurd each
each_with R S P Q to (x ∷ xs) [] each first second = absurd each
each_with R S P Q to (x ∷ xs) (y ∷ ys) each first second = (to x y each.0 first.0 second.0, each_with R S P Q to xs ys each.1 first.1 second.1)
