-- The loop over the filters of a SUBSCRIBE or an UNSUBSCRIBE.
use Rattle.std.proofs.Common.{◌≡◌, ℕ, zero, suc, ◌+◌, ◌≤◌, ◌<◌, List, [], ◌∷◌, ◌++◌, length, Result, Ok, Err, refl, sym, ap, ◌∙◌, arith, append_assoc}
use Rattle.std.proofs.lemmas.List.{append-nil, length-append}
use Rattle.rs_packet_field.specs.declared.fault.PacketFault.{PacketFault}
use Rattle.rs_packet_field.specs.declared.fault.PacketFault.TheVariants.{Malformed, Protocol, TooLarge, Version, NoMemory}
use Rattle.rs_packet.specs.PacketReading.{◌>>=◌, Fails, all_in}

abbrev pub with_front : {A : Type 0} → List A → Result (List A) PacketFault → Result (List A) PacketFault
with_front front read = read >>= λ more. Ok (front ++ more)

-- what was read, and what the rest gives, is what the body gives; each item took a byte at least
pub record IsOnTheWay {A : Type 0} (read : List ℕ → Result (A × List ℕ) PacketFault) (body : List ℕ) (front : List A) (rest : List ℕ) : Type 0 where
  pub fuel : ℕ
  pub enough : length rest ≤ fuel
  pub same : with_front front (all_in read fuel rest) ≡ all_in read (length body) body
  pub few : length front + length rest ≤ length body
  pub some : 0 < length body → 0 < length front + length rest

pub begins : {A : Type 0} (read : List ℕ → Result (A × List ℕ) PacketFault) (body : List ℕ) → IsOnTheWay read body [] body
begins {A} read body = record { fuel = length body; enough = omega arith; same = whole (all_in read (length body) body); few = omega arith; some = λ h. omega (arith, h) }
  where
    whole : (r : Result (List A) PacketFault) → with_front [] r ≡ r
    whole (Ok more) = refl
    whole (Err f) = refl

pub more : {A : Type 0} (read : List ℕ → Result (A × List ℕ) PacketFault) (body : List ℕ) (front : List A) (rest : List ℕ) (a : A) (after : List ℕ) (next : List A)
    → IsOnTheWay read body front rest → 0 < length rest → read rest ≡ Ok (a, after) → length after < length rest → next ≡ front ++ a ∷ [] → IsOnTheWay read body next after
unfolding all_in
more read body front [] a after next h some is shorter longer = absurd (omega arith)
more {A} read body front (b ∷ bytes) a after next h some is shorter longer = go h.fuel h.enough h.same
  where
    regroup : (r : Result (List A) PacketFault) → with_front front (r >>= λ more. Ok (a ∷ more)) ≡ with_front (front ++ a ∷ []) r
    regroup (Ok more) = ap (λ (xs : List A). Ok xs) (sym (append_assoc front (a ∷ []) more))
    regroup (Err f) = refl

    go : (fuel : ℕ) → length (b ∷ bytes) ≤ fuel → with_front front (all_in read fuel (b ∷ bytes)) ≡ all_in read (length body) body → IsOnTheWay read body next after
    go zero le same = absurd (omega (arith, le))
    go (suc n) le same =
        let one : with_front front (all_in read (suc n) (b ∷ bytes)) ≡ with_front (front ++ a ∷ []) (all_in read n after) = rw is (regroup (all_in read n after)) in
        let len : length (front ++ a ∷ []) ≡ length front + 1 = length-append front (a ∷ []) in
        rw longer (record { fuel = n; enough = omega (arith, le, shorter); same = sym one ∙ same; few = omega (arith, h.few, len, shorter); some = λ p. omega (arith, len) })

pub fails : {A : Type 0} (read : List ℕ → Result (A × List ℕ) PacketFault) (body : List ℕ) (front : List A) (rest : List ℕ) (e : PacketFault)
    → IsOnTheWay read body front rest → 0 < length rest → Fails e (read rest) → Fails e (all_in read (length body) body)
unfolding all_in
fails read body front [] e h some is = absurd (omega arith)
fails read body front (b ∷ bytes) e h some is = by e is
  where
    at : (f : PacketFault) (fuel : ℕ) → length (b ∷ bytes) ≤ fuel → read (b ∷ bytes) ≡ Err f → with_front front (all_in read fuel (b ∷ bytes)) ≡ Err f
    at f zero le is = absurd (omega (arith, le))
    at f (suc n) le is = rw is refl

    by : (e : PacketFault) → Fails e (read (b ∷ bytes)) → Fails e (all_in read (length body) body)
    by NoMemory is = tt
    by Malformed is = sym h.same ∙ at Malformed h.fuel h.enough is
    by Protocol is = sym h.same ∙ at Protocol h.fuel h.enough is
    by TooLarge is = sym h.same ∙ at TooLarge h.fuel h.enough is
    by Version is = sym h.same ∙ at Version h.fuel h.enough is

-- what the loop has read at its end
pub record AreAll {A : Type 0} (read : List ℕ → Result (A × List ℕ) PacketFault) (body : List ℕ) (all : List A) : Type 0 where
  pub is : all_in read (length body) body ≡ Ok all
  pub few : length all ≤ length body
  pub some : 0 < length body → 0 < length all

pub done : {A : Type 0} (read : List ℕ → Result (A × List ℕ) PacketFault) (body : List ℕ) (front : List A) (rest : List ℕ) → IsOnTheWay read body front rest → length rest ≡ 0 → AreAll read body front
unfolding all_in
done read body front (b ∷ bytes) h none = absurd (omega arith)
done {A} read body front [] h none = record { is = go h.fuel h.same; few = omega (arith, h.few); some = λ p. omega (arith, h.some p) }
  where
    go : (fuel : ℕ) → with_front front (all_in read fuel []) ≡ all_in read (length body) body → all_in read (length body) body ≡ Ok front
    go zero same = sym same ∙ ap (λ (xs : List A). Ok xs) (append-nil front)
    go (suc n) same = sym same ∙ ap (λ (xs : List A). Ok xs) (append-nil front)
