-- The loop over the properties: what stands before a property, and after it.
use Rattle.std.proofs.Common.{◌≡◌, ℕ, zero, suc, ◌≤◌, ◌<◌, Bool, List, [], ◌∷◌, length, Result, Ok, Err, refl, sym, ◌∙◌, arith, true, false, eqb, slice_set}
use Rattle.std.proofs.lemmas.Bool.{eqb-false, eqb-true}
use Rattle.rs_packet_field.specs.declared.fault.PacketFault.{PacketFault}
use Rattle.rs_packet_field.specs.declared.fault.PacketFault.TheVariants.{Malformed, Protocol, TooLarge, Version, NoMemory}
use Rattle.rs_packet_property.specs.declared.property.PropertyOwner.{PropertyOwner}
use Rattle.rs_packet_property.specs.declared.property.Property.{Property}
use Rattle.rs_packet_property.specs.Values.{PacketProperties}
use Rattle.rs_packet_property.specs.Properties.{collected, put, number, identifier}
use Rattle.rs_packet_field.specs.Reading.{◌>>=◌, Fails, collect_on, properties_in, property_at}

-- what was found, and what the rest adds, is the total
pub record IsOnTheWay (where_ : PropertyOwner) (values : PacketProperties) (seen : List Bool) (rest : List ℕ) (total : Result PacketProperties PacketFault) : Type 0 where
  pub fuel : ℕ
  pub enough : length rest ≤ fuel
  pub same : collect_on values (properties_in fuel where_ seen rest) ≡ total

pub more : (where_ : PropertyOwner) (values : PacketProperties) (seen : List Bool) (rest : List ℕ) (total : Result PacketProperties PacketFault) (p : Property) (after : List ℕ)
    → IsOnTheWay where_ values seen rest total → 0 < length rest → property_at where_ seen rest ≡ Ok (p, after) → length after < length rest
    → IsOnTheWay where_ (put values p) (slice_set seen (number (identifier p)) true) after total
unfolding collected properties_in
more where_ values seen [] total p after h some read shorter = absurd (omega arith)
more where_ values seen (b ∷ bytes) total p after h some read shorter = go h.fuel h.enough h.same
  where
    regroup : (r : Result (List Property) PacketFault) → collect_on values (r >>= λ ps. Ok (p ∷ ps)) ≡ collect_on (put values p) r
    regroup (Ok ps) = refl
    regroup (Err f) = refl

    go : (fuel : ℕ) → length (b ∷ bytes) ≤ fuel → collect_on values (properties_in fuel where_ seen (b ∷ bytes)) ≡ total → IsOnTheWay where_ (put values p) (slice_set seen (number (identifier p)) true) after total
    go zero le same = absurd (omega (arith, le))
    go (suc n) le same =
        let one : collect_on values (properties_in (suc n) where_ seen (b ∷ bytes)) ≡ collect_on (put values p) (properties_in n where_ (slice_set seen (number (identifier p)) true) after) = rw read (regroup (properties_in n where_ (slice_set seen (number (identifier p)) true) after)) in
        record { fuel = n; enough = omega (arith, le, shorter); same = sym one ∙ same }

pub fails : (where_ : PropertyOwner) (values : PacketProperties) (seen : List Bool) (rest : List ℕ) (total : Result PacketProperties PacketFault) (e : PacketFault)
    → IsOnTheWay where_ values seen rest total → 0 < length rest → Fails e (property_at where_ seen rest) → Fails e total
unfolding properties_in
fails where_ values seen [] total e h some read = absurd (omega arith)
fails where_ values seen (b ∷ bytes) total e h some read = go h.fuel h.enough h.same
  where
    at : (f : PacketFault) (fuel : ℕ) → length (b ∷ bytes) ≤ fuel → property_at where_ seen (b ∷ bytes) ≡ Err f → collect_on values (properties_in fuel where_ seen (b ∷ bytes)) ≡ Err f
    at f zero le is = absurd (omega (arith, le))
    at f (suc n) le is = rw is refl

    go : (fuel : ℕ) → length (b ∷ bytes) ≤ fuel → collect_on values (properties_in fuel where_ seen (b ∷ bytes)) ≡ total → Fails e total
    go fuel le same = by e read
      where
        by : (e : PacketFault) → Fails e (property_at where_ seen (b ∷ bytes)) → Fails e total
        by NoMemory read = tt
        by Malformed read = sym same ∙ at Malformed fuel le read
        by Protocol read = sym same ∙ at Protocol fuel le read
        by TooLarge read = sym same ∙ at TooLarge fuel le read
        by Version read = sym same ∙ at Version fuel le read

pub done : (where_ : PropertyOwner) (values : PacketProperties) (seen : List Bool) (rest : List ℕ) (total : Result PacketProperties PacketFault) → IsOnTheWay where_ values seen rest total → length rest ≡ 0 → total ≡ Ok values
unfolding collected properties_in
done where_ values seen (b ∷ bytes) total h none = absurd (omega arith)
done where_ values seen [] total h none = go h.fuel h.same
  where
    go : (fuel : ℕ) → collect_on values (properties_in fuel where_ seen []) ≡ total → total ≡ Ok values
    go zero same = sym same
    go (suc n) same = sym same

-- a step, with the new values named
pub stepped : (where_ : PropertyOwner) (values : PacketProperties) (seen : List Bool) (rest : List ℕ) (total : Result PacketProperties PacketFault) (p : Property) (after : List ℕ) (next : PacketProperties) (n : ℕ)
    → IsOnTheWay where_ values seen rest total → 0 < length rest → property_at where_ seen rest ≡ Ok (p, after) → length after < length rest → next ≡ put values p → n ≡ number (identifier p)
    → IsOnTheWay where_ next (slice_set seen n true) after total
stepped where_ values seen rest total p after next n h some read shorter is-next is-n = rw (is-next, is-n) (more where_ values seen rest total p after h some read shorter)

pub some_left : (rest : List ℕ) (b : Bool) → b ≡ eqb (length rest) 0 → b ≡ false → 0 < length rest
some_left rest b e f = omega (arith, eqb-false (length rest) 0 (sym e ∙ f))

pub none_left : (rest : List ℕ) (b : Bool) → b ≡ eqb (length rest) 0 → b ≡ true → length rest ≡ 0
none_left rest b e t = eqb-true (length rest) 0 (sym e ∙ t)
