-- One more User Property is read, or written.
use Rattle.std.proofs.Common.{◌≡◌, ℕ, zero, suc, ◌<◌, List, [], ◌∷◌, ◌++◌, length, Result, Ok, Err, sym, ap, ◌∙◌, append_assoc, append-nil, refl, arith, ◌+◌, ◌-◌, ◌≤◌, take, get_or}
use Rattle.std.proofs.lemmas.List.{take_more}
use Rattle.std.proofs.lemmas.List.Concat.{flat_map-append}
use Rattle.std.specs.List.{flat_map}
use Rattle.rs_packet_field.specs.Reading.{◌>>=◌}
use Rattle.rs_journal_record.specs.declared.fault.RecordFault.{RecordFault}
use Rattle.rs_journal_record.specs.declared.fault.RecordFault.TheVariants.{Truncated, UnknownKind, Malformed, NoMemory}
use Rattle.rs_journal_record.specs.Fields.{Fails}
use Rattle.rs_journal_record.specs.Properties.{pair_form, pair_at, pairs_at}

abbrev Read : Type 0
Read = Result (List (List ℕ × List ℕ) × List ℕ) RecordFault

-- behind those that were read before
abbrev pub with_front : List (List ℕ × List ℕ) → Read → Read
with_front front read = read >>= λ more. Ok (front ++ more.0, more.1)

one_longer : (front : List (List ℕ × List ℕ)) (pair : List ℕ × List ℕ) (read : Read)
    → with_front front (read >>= λ more. Ok (pair ∷ more.0, more.1)) ≡ with_front (front ++ pair ∷ []) read
one_longer front pair (Ok (x, y)) = ap (λ (l : List (List ℕ × List ℕ)). Ok (l, y)) (sym (append_assoc front (pair ∷ []) x))
one_longer front pair (Err e) = refl

pub read_step : (all : Read) (n i : ℕ) (front longer : List (List ℕ × List ℕ)) (rest after : List ℕ) (pair : List ℕ × List ℕ) → i < n
    → all ≡ with_front front (pairs_at (n - i) rest) → pair_at rest ≡ Ok (pair, after) → longer ≡ front ++ pair ∷ []
    → all ≡ with_front longer (pairs_at (n - (i + 1)) after)
unfolding pairs_at
read_step all n i front longer rest after pair lt inv read more =
    let less : n - i ≡ suc (n - (i + 1)) = omega arith in
    inv ∙ ap (λ (k : ℕ). with_front front (pairs_at k rest)) less ∙ rw (read, more) (one_longer front pair (pairs_at (n - (i + 1)) after))

pub read_fails : (all : Read) (n i : ℕ) (front : List (List ℕ × List ℕ)) (rest : List ℕ) (fault : RecordFault) → i < n
    → all ≡ with_front front (pairs_at (n - i) rest) → Fails fault (pair_at rest) → Fails fault all
unfolding pairs_at
read_fails all n i front rest fault lt inv read = by fault read
  where
    less : n - i ≡ suc (n - (i + 1))
    less = omega (arith, lt)

    at : (f : RecordFault) → pair_at rest ≡ Err f → all ≡ Err f
    at f is = inv ∙ ap (λ (k : ℕ). with_front front (pairs_at k rest)) less ∙ rw is refl

    by : (f : RecordFault) → Fails f (pair_at rest) → Fails f all
    by NoMemory is = tt
    by Truncated is = at Truncated is
    by UnknownKind is = at UnknownKind is
    by Malformed is = at Malformed is

pub read_done : (all : Read) (n i : ℕ) (front : List (List ℕ × List ℕ)) (rest : List ℕ) → n ≤ i
    → all ≡ with_front front (pairs_at (n - i) rest) → all ≡ Ok (front, rest)
unfolding pairs_at
read_done all n i front rest le inv =
    let none : n - i ≡ zero = omega arith in
    inv ∙ ap (λ (k : ℕ). with_front front (pairs_at k rest)) none ∙ ap (λ (l : List (List ℕ × List ℕ)). Ok (l, rest)) (append-nil front)

pub put_step : (old out new : List ℕ) (pairs : List (List ℕ × List ℕ)) (i : ℕ) (pair : List ℕ × List ℕ) → i < length pairs → pair ≡ get_or pairs i pair
    → out ≡ old ++ flat_map pair_form (take i pairs) → new ≡ out ++ pair_form pair → new ≡ old ++ flat_map pair_form (take (i + 1) pairs)
put_step old out new pairs i pair lt is inv put =
    let more : flat_map pair_form (take (i + 1) pairs) ≡ flat_map pair_form (take i pairs) ++ pair_form pair =
    ap (flat_map pair_form) (take_more pairs i pair lt) ∙ flat_map-append pair_form (take i pairs) (get_or pairs i pair ∷ [])
    ∙ ap (λ (l : List ℕ). flat_map pair_form (take i pairs) ++ l) (append-nil (pair_form (get_or pairs i pair)) ∙ ap pair_form (sym is)) in
    put ∙ ap (λ (l : List ℕ). l ++ pair_form pair) inv ∙ append_assoc old (flat_map pair_form (take i pairs)) (pair_form pair) ∙ ap (λ (l : List ℕ). old ++ l) (sym more)
