-- Lists in parts.
use Rattle.std.proofs.Common.{◌≡◌, ℕ, ◌+◌, ◌-◌, ◌≤◌, List, ◌++◌, length, take, drop, sym, ap, ◌∙◌, arith, append_assoc, length-drop}
use Rattle.std.proofs.lemmas.List.{drop-take, take_all, take-append-drop, take-take}

pub take_add : (m n : ℕ) (xs : List ℕ) → take (m + n) xs ≡ take m xs ++ take n (drop m xs)
take_add m n xs =
    sym (take-append-drop m (take (m + n) xs)) ∙ ap (λ (l : List ℕ). l ++ drop m (take (m + n) xs)) (take-take m (m + n) xs (omega arith)) ∙ ap (λ (l : List ℕ). take m xs ++ l) (drop-take m n xs)

-- the bytes from a place on, as a slice of them
rest_is : (bytes : List ℕ) (from : ℕ) → take (length bytes - from) (drop from bytes) ≡ drop from bytes
rest_is bytes from = take_all (length bytes - from) (drop from bytes) (omega (arith, length-drop from bytes))

-- so many bytes more
pub front_more : (seen bytes : List ℕ) (from n : ℕ) → (seen ++ take from bytes) ++ take n (take (length bytes - from) (drop from bytes)) ≡ seen ++ take (from + n) bytes
front_more seen bytes from n =
    ap (λ (l : List ℕ). (seen ++ take from bytes) ++ take n l) (rest_is bytes from)
    ∙ append_assoc seen (take from bytes) (take n (drop from bytes))
    ∙ ap (λ (l : List ℕ). seen ++ l) (sym (take_add from n bytes))

pub within_more : (bytes : List ℕ) (from n : ℕ) → from ≤ length bytes → n ≤ length (take (length bytes - from) (drop from bytes)) → from + n ≤ length bytes
within_more bytes from n within more = omega (arith, ap length (rest_is bytes from), length-drop from bytes, within, more)
