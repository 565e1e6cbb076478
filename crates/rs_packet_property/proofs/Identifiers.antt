-- Identifiers of properties by their numbers, and which of them stood before.
use Rattle.std.proofs.Common.{◌≡◌, ℕ, ◌<◌, ◌≤◌, Bool, true, false, cond, not, eqb, ◌||◌, List, [], ◌∷◌, length, slice_index_or, slice_set, Option, Some, None, refl, sym, ap, subst, ◌∙◌, arith, inl, inr}
use Rattle.std.specs.Prelude.{◌⊎◌}
use Rattle.std.specs.List.{find}
use Rattle.std.proofs.lemmas.Bool.{eqb-true, eqb-false}
use Rattle.std.proofs.lemmas.List.{get_or-set_same, get_or-set_other, length-set}
use Rattle.rs_packet_property.specs.declared.property.Identifier.{Identifier}
use Rattle.rs_packet_property.specs.declared.property.Identifier.TheVariants as id
use Rattle.rs_packet_property.specs.declared.property.Property.{Property}
use Rattle.rs_packet_property.specs.declared.property.TheConstants.{IDENTIFIERS}
use Rattle.rs_packet_property.specs.Properties.{varint, varint_end, low_first, number, identifier, may_repeat, none_yet, MayStandBeside, AreOnce}
use Rattle.rs_packet_property.specs.Properties.{identifiers, identifier_of}

pub chosen : {A : Type 0} (b : Bool) (x y z : A) → cond b x y ≡ z → ((b ≡ true) × (x ≡ z)) ⊎ ((b ≡ false) × (y ≡ z))
chosen true x y z e = inl (refl, e)
chosen false x y z e = inr (refl, e)

some_is : {A : Type 0} (x y : A) → ◌≡◌ {A = Option A} (Some x) (Some y) → x ≡ y
some_is x y e = cc

pub find_passes : {A : Type 0} (test : A → Bool) (xs : List A) (x : A) → find test xs ≡ Some x → test x ≡ true
find_passes test [] x e = absurd cc
find_passes {A} test (y ∷ ys) x e =
    elim (chosen (test y) (Some y) (find test ys) (Some x) e) [
      | inl h ↦ let same : y ≡ x = some_is y x h.1 in subst (λ (z : A). test z ≡ true) same h.0
      | inr h ↦ find_passes test ys x h.1
    ]

pub identifier_of_is : (n : ℕ) (i : Identifier) → identifier_of n ≡ Some i → number i ≡ n
unfolding identifier_of
identifier_of_is n i e = eqb-true _ _ (find_passes (λ j. eqb (number j) n) identifiers i e)

pub identifier_again : (i : Identifier) → identifier_of (number i) ≡ Some i
unfolding identifier_of
identifier_again id.PayloadFormatIndicator = refl
identifier_again id.MessageExpiryInterval = refl
identifier_again id.ContentType = refl
identifier_again id.ResponseTopic = refl
identifier_again id.CorrelationData = refl
identifier_again id.SubscriptionIdentifier = refl
identifier_again id.SessionExpiryInterval = refl
identifier_again id.AuthenticationMethod = refl
identifier_again id.AuthenticationData = refl
identifier_again id.RequestProblemInformation = refl
identifier_again id.RequestResponseInformation = refl
identifier_again id.ServerReference = refl
identifier_again id.ReasonString = refl
identifier_again id.ReceiveMaximum = refl
identifier_again id.TopicAliasMaximum = refl
identifier_again id.TopicAlias = refl
identifier_again id.UserProperty = refl
identifier_again id.MaximumPacketSize = refl

-- an identifier takes one byte
pub one_byte : (i : Identifier) → varint (number i) ≡ number i ∷ []
unfolding low_first
one_byte id.PayloadFormatIndicator = refl
one_byte id.MessageExpiryInterval = refl
one_byte id.ContentType = refl
one_byte id.ResponseTopic = refl
one_byte id.CorrelationData = refl
one_byte id.SubscriptionIdentifier = refl
one_byte id.SessionExpiryInterval = refl
one_byte id.AuthenticationMethod = refl
one_byte id.AuthenticationData = refl
one_byte id.RequestProblemInformation = refl
one_byte id.RequestResponseInformation = refl
one_byte id.ServerReference = refl
one_byte id.ReasonString = refl
one_byte id.ReceiveMaximum = refl
one_byte id.TopicAliasMaximum = refl
one_byte id.TopicAlias = refl
one_byte id.UserProperty = refl
one_byte id.MaximumPacketSize = refl

pub number_small : (i : Identifier) → number i < varint_end
number_small id.PayloadFormatIndicator = omega arith
number_small id.MessageExpiryInterval = omega arith
number_small id.ContentType = omega arith
number_small id.ResponseTopic = omega arith
number_small id.CorrelationData = omega arith
number_small id.SubscriptionIdentifier = omega arith
number_small id.SessionExpiryInterval = omega arith
number_small id.AuthenticationMethod = omega arith
number_small id.AuthenticationData = omega arith
number_small id.RequestProblemInformation = omega arith
number_small id.RequestResponseInformation = omega arith
number_small id.ServerReference = omega arith
number_small id.ReasonString = omega arith
number_small id.ReceiveMaximum = omega arith
number_small id.TopicAliasMaximum = omega arith
number_small id.TopicAlias = omega arith
number_small id.UserProperty = omega arith
number_small id.MaximumPacketSize = omega arith

pub number_below : (i : Identifier) → number i < IDENTIFIERS
number_below id.PayloadFormatIndicator = omega arith
number_below id.MessageExpiryInterval = omega arith
number_below id.ContentType = omega arith
number_below id.ResponseTopic = omega arith
number_below id.CorrelationData = omega arith
number_below id.SubscriptionIdentifier = omega arith
number_below id.SessionExpiryInterval = omega arith
number_below id.AuthenticationMethod = omega arith
number_below id.AuthenticationData = omega arith
number_below id.RequestProblemInformation = omega arith
number_below id.RequestResponseInformation = omega arith
number_below id.ServerReference = omega arith
number_below id.ReasonString = omega arith
number_below id.ReceiveMaximum = omega arith
number_below id.TopicAliasMaximum = omega arith
number_below id.TopicAlias = omega arith
number_below id.UserProperty = omega arith
number_below id.MaximumPacketSize = omega arith

-- no identifier has a number of more than one byte
pub none_above : (n : ℕ) → 256 ≤ n → identifier_of n ≡ None
none_above n large = by (identifier_of n) refl
  where
    by : (o : Option Identifier) → identifier_of n ≡ o → o ≡ None
    by None e = refl
    by (Some i) e = absurd (omega (arith, number_below i, identifier_of_is n i e))

number_same : (i j : Identifier) → number i ≡ number j → i ≡ j
number_same i j e = some_is i j (sym (identifier_again i) ∙ ap identifier_of e ∙ identifier_again j)

-- ---- which stood before, as flags by number

-- whether one of its identifier stood before
abbrev stood : List Bool → Property → Bool
stood before p = slice_index_or before (number (identifier p)) false

abbrev marked : List Bool → Property → List Bool
marked before p = slice_set before (number (identifier p)) true

abbrev pub IsNew : List Bool → Property → Type 0
IsNew before p = (may_repeat (identifier p) || not (slice_index_or before (number (identifier p)) false)) ≡ true

-- each is new after those before it
abbrev pub AreNew : List Bool → List Property → Type 0
AreNew before [] = Unit {0}
AreNew before (p ∷ ps) = IsNew before p × AreNew (slice_set before (number (identifier p)) true) ps

-- each is new after those that the flags tell
abbrev AllNew : List Bool → List Property → Type 0
AllNew before [] = Unit {0}
AllNew before (p ∷ ps) = IsNew before p × AllNew before ps

or_is : (a b : Bool) → (a || not b) ≡ true → (a ≡ true) ⊎ (b ≡ false)
or_is true b e = inl refl
or_is false false e = inr refl
or_is false true e = absurd cc

or_from : (a b : Bool) → (a ≡ true) ⊎ (b ≡ false) → (a || not b) ≡ true
or_from true b h = refl
or_from false false h = refl
or_from false true (inl e) = absurd cc
or_from false true (inr e) = absurd cc

repeats_is_user : (i : Identifier) → may_repeat i ≡ true → i ≡ id.UserProperty
repeats_is_user id.PayloadFormatIndicator e = absurd cc
repeats_is_user id.MessageExpiryInterval e = absurd cc
repeats_is_user id.ContentType e = absurd cc
repeats_is_user id.ResponseTopic e = absurd cc
repeats_is_user id.CorrelationData e = absurd cc
repeats_is_user id.SubscriptionIdentifier e = absurd cc
repeats_is_user id.SessionExpiryInterval e = absurd cc
repeats_is_user id.AuthenticationMethod e = absurd cc
repeats_is_user id.AuthenticationData e = absurd cc
repeats_is_user id.RequestProblemInformation e = absurd cc
repeats_is_user id.RequestResponseInformation e = absurd cc
repeats_is_user id.ServerReference e = absurd cc
repeats_is_user id.ReasonString e = absurd cc
repeats_is_user id.ReceiveMaximum e = absurd cc
repeats_is_user id.TopicAliasMaximum e = absurd cc
repeats_is_user id.TopicAlias e = absurd cc
repeats_is_user id.UserProperty e = refl
repeats_is_user id.MaximumPacketSize e = absurd cc

-- what is new after a property too is new before it, and of its identifier only as a user property
after : (before : List Bool) (p q : Property) → length before ≡ IDENTIFIERS → IsNew (marked before p) q → IsNew before q × (identifier p ≡ identifier q → identifier p ≡ id.UserProperty)
after before p q len h =
    let lt : number (identifier p) < length before = omega (arith, len, number_below (identifier p)) in
    elim (or_is (may_repeat (identifier q)) (stood (marked before p) q) h) [
      | inl r ↦ (or_from (may_repeat (identifier q)) (stood before q) (inl r), λ s. repeats_is_user (identifier p) (ap may_repeat s ∙ r))
      | inr f ↦
          let ne : number (identifier q) ≡ number (identifier p) → ⊥ = λ e.
          let t : stood (marked before p) q ≡ true = ap (λ (k : ℕ). slice_index_or (marked before p) k false) e ∙ get_or-set_same before (number (identifier p)) true false lt in
          let u : true ≡ false = sym t ∙ f in absurd cc in
          let other : stood (marked before p) q ≡ stood before q = get_or-set_other before (number (identifier p)) (number (identifier q)) true false ne in
          (or_from (may_repeat (identifier q)) (stood before q) (inr (sym other ∙ f)), λ s. absurd (ne (ap number (sym s))))
    ]

all_after : (before : List Bool) (p : Property) (qs : List Property) → length before ≡ IDENTIFIERS → AllNew (marked before p) qs → AllNew before qs × MayStandBeside p qs
all_after before p [] len h = (tt, tt)
all_after before p (q ∷ qs) len h =
    let one = after before p q len h.0 in
    let others = all_after before p qs len h.1 in
    ((one.0, others.0), (one.1, others.1))

-- by flags, so by pairs
pub once_when_new : (before : List Bool) (ps : List Property) → length before ≡ IDENTIFIERS → AreNew before ps → AllNew before ps × AreOnce ps
once_when_new before [] len h = (tt, tt)
once_when_new before (p ∷ ps) len h =
    let others = once_when_new (marked before p) ps (length-set before (number (identifier p)) true ∙ len) h.1 in
    let split = all_after before p ps len others.0 in
    ((h.0, split.0), (split.1, others.1))

beside : (before : List Bool) (p q : Property) → IsNew before q → (identifier p ≡ identifier q → identifier p ≡ id.UserProperty) → IsNew (marked before p) q
beside before p q h one = by (eqb (number (identifier q)) (number (identifier p))) refl
  where
    by : (t : Bool) → eqb (number (identifier q)) (number (identifier p)) ≡ t → IsNew (marked before p) q
    by true e =
        let same : identifier q ≡ identifier p = number_same (identifier q) (identifier p) (eqb-true _ _ e) in
        or_from (may_repeat (identifier q)) (stood (marked before p) q) (inl (ap may_repeat (same ∙ one (sym same))))
    by false e =
        let other : stood (marked before p) q ≡ stood before q = get_or-set_other before (number (identifier p)) (number (identifier q)) true false (eqb-false _ _ e) in
        subst (λ (b : Bool). (may_repeat (identifier q) || not b) ≡ true) (sym other) h

all_beside : (before : List Bool) (p : Property) (qs : List Property) → AllNew before qs → MayStandBeside p qs → AllNew (marked before p) qs
all_beside before p [] h one = tt
all_beside before p (q ∷ qs) h one = (beside before p q h.0 one.0, all_beside before p qs h.1 one.1)

new_after : (before : List Bool) (ps : List Property) → AllNew before ps → AreOnce ps → AreNew before ps
new_after before [] h one = tt
new_after before (p ∷ ps) h one = (h.0, new_after (marked before p) ps (all_beside before p ps h.1 one.0) one.1)

none_stood : (i : Identifier) → (may_repeat i || not (slice_index_or none_yet (number i) false)) ≡ true
none_stood id.PayloadFormatIndicator = refl
none_stood id.MessageExpiryInterval = refl
none_stood id.ContentType = refl
none_stood id.ResponseTopic = refl
none_stood id.CorrelationData = refl
none_stood id.SubscriptionIdentifier = refl
none_stood id.SessionExpiryInterval = refl
none_stood id.AuthenticationMethod = refl
none_stood id.AuthenticationData = refl
none_stood id.RequestProblemInformation = refl
none_stood id.RequestResponseInformation = refl
none_stood id.ServerReference = refl
none_stood id.ReasonString = refl
none_stood id.ReceiveMaximum = refl
none_stood id.TopicAliasMaximum = refl
none_stood id.TopicAlias = refl
none_stood id.UserProperty = refl
none_stood id.MaximumPacketSize = refl

all_none : (ps : List Property) → AllNew none_yet ps
all_none [] = tt
all_none (p ∷ ps) = (none_stood (identifier p), all_none ps)

-- by pairs, so by flags
pub new_when_once : (ps : List Property) → AreOnce ps → AreNew none_yet ps
new_when_once ps h = new_after none_yet ps (all_none ps) h
