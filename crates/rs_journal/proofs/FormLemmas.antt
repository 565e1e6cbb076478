-- The forms of pages, and what is read of them.
use Rattle.std.proofs.Common.{◌≡◌, ℕ, ◌+◌, ◌-◌, ◌<◌, ◌≤◌, ◌^◌, List, [], ◌∷◌, ◌++◌, length, take, drop, replicate, refl, sym, ap, ◌∙◌, arith, append_assoc, length-append}
use Rattle.std.specs.Int.{w16, w64, to_be_bytes, from_be_bytes}
use Rattle.std.proofs.lemmas.List.{take_all, take_at, drop_at, drop-drop, length-replicate}
use Rattle.std.proofs.lemmas.Nat.{from_be_bytes-to_be_bytes_2, from_be_bytes-to_be_bytes_8}
use Rattle.rs_journal.specs.Pages.{page_form, head_form, number_of, part_of, IsHead, name}

-- a `Vec` that was filled and resized
pub resized : (front all : List ℕ) (n : ℕ) → n ≡ length front → length front ≤ 1024 → all ≡ take 1024 front ++ replicate (1024 - n) 0 → all ≡ front ++ replicate (1024 - length front) 0
resized front all n is small made = made ∙ ap (λ (k : ℕ). take 1024 front ++ replicate (1024 - k) 0) is ∙ ap (λ (l : List ℕ). l ++ replicate (1024 - length front) 0) (take_all 1024 front small)

pub page_filled : (a b part front : List ℕ) → front ≡ (a ++ b) ++ part → length a ≡ 8 → length b ≡ 2
    → front ++ replicate (1024 - length front) 0 ≡ a ++ (b ++ (part ++ replicate (1024 - (length part + 10)) 0))
page_filled a b part front is long_a long_b =
    let long : length front ≡ length part + 10 = ap length is ∙ omega (arith, length-append (a ++ b) part, length-append a b) in
    ap (λ (k : ℕ). front ++ replicate (1024 - k) 0) long ∙ ap (λ (l : List ℕ). l ++ replicate (1024 - (length part + 10)) 0) is
    ∙ append_assoc (a ++ b) part (replicate (1024 - (length part + 10)) 0) ∙ append_assoc a b (part ++ replicate (1024 - (length part + 10)) 0)

pub head_filled : (a b front : List ℕ) → front ≡ ((a ++ 1 ∷ []) ++ b) ++ b → length a ≡ 7 → length b ≡ 8
    → front ++ replicate (1024 - length front) 0 ≡ a ++ (1 ∷ (b ++ (b ++ replicate (1024 - 24) 0)))
head_filled a b front is long_a long_b =
    let zeros : List ℕ = replicate (1024 - 24) 0 in
    let long : length front ≡ 24 = ap length is ∙ omega (arith, length-append ((a ++ 1 ∷ []) ++ b) b, length-append (a ++ 1 ∷ []) b, length-append a (1 ∷ [])) in
    ap (λ (k : ℕ). front ++ replicate (1024 - k) 0) long ∙ ap (λ (l : List ℕ). l ++ zeros) is
    ∙ append_assoc ((a ++ 1 ∷ []) ++ b) b zeros ∙ append_assoc (a ++ 1 ∷ []) b (b ++ zeros) ∙ append_assoc a (1 ∷ []) (b ++ (b ++ zeros))

-- what the calls that fill a page leave
pub page_is : (v0 v1 v2 v3 v4 a b part : List ℕ) (n3 number : ℕ) → v0 ≡ [] → v1 ≡ v0 ++ a → v2 ≡ v1 ++ b → v3 ≡ v2 ++ part → n3 ≡ length a + length b + length part
    → v4 ≡ take 1024 v3 ++ replicate (1024 - n3) 0 → a ≡ to_be_bytes w64 number → b ≡ to_be_bytes w16 (length part) → length part ≤ 1014 → v4 ≡ page_form number part
unfolding page_form
page_is v0 v1 v2 v3 v4 a b part n3 number h0 h1 h2 h3 n h4 is_a is_b small =
    let is : v3 ≡ (a ++ b) ++ part = h3 ∙ ap (λ (l : List ℕ). l ++ part) (h2 ∙ ap (λ (l : List ℕ). l ++ b) (h1 ∙ ap (λ (l : List ℕ). l ++ a) h0)) in
    let long_a : length a ≡ 8 = ap length is_a in
    let long_b : length b ≡ 2 = ap length is_b in
    let long : length v3 ≡ length part + 10 = ap length is ∙ omega (arith, length-append (a ++ b) part, length-append a b) in
    let formed : (a' b' : List ℕ) → a ≡ a' → b ≡ b' → a ++ (b ++ (part ++ replicate (1024 - (length part + 10)) 0)) ≡ a' ++ (b' ++ (part ++ replicate (1024 - (length part + 10)) 0)) = λ a' b' p q.
    ap (λ (l : List ℕ). l ++ (b ++ (part ++ replicate (1024 - (length part + 10)) 0))) p ∙ ap (λ (l : List ℕ). a' ++ (l ++ (part ++ replicate (1024 - (length part + 10)) 0))) q in
    resized v3 v4 n3 (omega (arith, n, long, long_a, long_b)) (omega (arith, long, small)) h4 ∙ page_filled a b part v3 is long_a long_b ∙ formed (to_be_bytes w64 number) (to_be_bytes w16 (length part)) is_a is_b

pub head_is : (v0 v1 v2 v3 v4 v5 a b : List ℕ) (n4 first : ℕ) → v0 ≡ [] → v1 ≡ v0 ++ name → v2 ≡ v1 ++ 1 ∷ [] → v3 ≡ v2 ++ a → v4 ≡ v3 ++ b → n4 ≡ 8 + length a + length b
    → v5 ≡ take 1024 v4 ++ replicate (1024 - n4) 0 → a ≡ to_be_bytes w64 first → b ≡ to_be_bytes w64 first → v5 ≡ head_form first
unfolding head_form
head_is v0 v1 v2 v3 v4 v5 a b n4 first h0 h1 h2 h3 h4 n h5 is_a is_b =
    let same : b ≡ a = is_b ∙ sym is_a in
    let is : v4 ≡ ((name ++ 1 ∷ []) ++ a) ++ a =
    h4 ∙ ap (λ (l : List ℕ). v3 ++ l) same ∙ ap (λ (l : List ℕ). l ++ a) (h3 ∙ ap (λ (l : List ℕ). l ++ a) (h2 ∙ ap (λ (l : List ℕ). l ++ 1 ∷ []) (h1 ∙ ap (λ (l : List ℕ). l ++ name) h0))) in
    let long_a : length a ≡ 8 = ap length is_a in
    let long_b : length b ≡ 8 = ap length is_b in
    let long : length v4 ≡ 24 = ap length is ∙ omega (arith, long_a, length-append ((name ++ 1 ∷ []) ++ a) a, length-append (name ++ 1 ∷ []) a) in
    resized v4 v5 n4 (omega (arith, n, long, long_a, long_b)) (omega (arith, long)) h5 ∙ head_filled name a v4 is refl long_a
    ∙ ap (λ (l : List ℕ). name ++ (1 ∷ (l ++ (l ++ replicate (1024 - 24) 0)))) is_a

pub number_form : (number : ℕ) (part : List ℕ) → number < 2 ^ 64 → number_of (page_form number part) ≡ number
unfolding page_form
number_form number part small =
    ap (λ (l : List ℕ). from_be_bytes w64 l) (take_at (to_be_bytes w64 number) (to_be_bytes w16 (length part) ++ (part ++ replicate (1024 - (length part + 10)) 0)) 8 refl)
    ∙ from_be_bytes-to_be_bytes_8 number small

behind_number : (number : ℕ) (part : List ℕ) → drop 8 (page_form number part) ≡ to_be_bytes w16 (length part) ++ (part ++ replicate (1024 - (length part + 10)) 0)
unfolding page_form
behind_number number part = drop_at (to_be_bytes w64 number) (to_be_bytes w16 (length part) ++ (part ++ replicate (1024 - (length part + 10)) 0)) 8 refl

pub part_form : (number : ℕ) (part : List ℕ) → length part < 2 ^ 16 → part_of (page_form number part) ≡ part
part_form number part small =
    let rest : List ℕ = part ++ replicate (1024 - (length part + 10)) 0 in
    let len : from_be_bytes w16 (take 2 (drop 8 (page_form number part))) ≡ length part =
    ap (λ (l : List ℕ). from_be_bytes w16 (take 2 l)) (behind_number number part)
    ∙ ap (λ (l : List ℕ). from_be_bytes w16 l) (take_at (to_be_bytes w16 (length part)) rest 2 refl)
    ∙ from_be_bytes-to_be_bytes_2 (length part) small in
    let behind : drop 10 (page_form number part) ≡ rest =
    sym (drop-drop 2 8 (page_form number part)) ∙ ap (λ (l : List ℕ). drop 2 l) (behind_number number part)
    ∙ drop_at (to_be_bytes w16 (length part)) rest 2 refl in
    ap (λ (n : ℕ). take n (drop 10 (page_form number part))) len ∙ ap (λ (l : List ℕ). take (length part) l) behind ∙ take_at part (replicate (1024 - (length part + 10)) 0) (length part) refl

pub page_long : (number : ℕ) (part : List ℕ) → length part ≤ 1014 → length (page_form number part) ≡ 1024
unfolding page_form
page_long number part small =
    omega (arith, length-append part (replicate (1024 - (length part + 10)) 0), length-replicate {A = ℕ} (1024 - (length part + 10)) 0)

pub head_long : (first : ℕ) → length (head_form first) ≡ 1024
unfolding head_form
head_long first = omega (arith, length-replicate {A = ℕ} (1024 - 24) 0)

pub head_says : (first : ℕ) → first < 2 ^ 64 → IsHead (head_form first) first
unfolding head_form
head_says first small =
    let zeros : List ℕ = replicate (1024 - 24) 0 in
    let number : List ℕ = to_be_bytes w64 first in
    record {
      named = refl;
      version = refl;
      begins = ap (λ (l : List ℕ). from_be_bytes w64 l) (take_at number (number ++ zeros) 8 refl) ∙ from_be_bytes-to_be_bytes_8 first small;
      again = ap (λ (l : List ℕ). from_be_bytes w64 (take 8 l)) (drop_at number (number ++ zeros) 8 refl) ∙ ap (λ (l : List ℕ). from_be_bytes w64 l) (take_at number zeros 8 refl) ∙ from_be_bytes-to_be_bytes_8 first small;
    }
