-- The levels of a text from a byte on.
use Rattle.std.proofs.Common.{◌≡◌, ◌==◌, ℕ, ◌+◌, ◌<◌, ◌≤◌, ◌⊎◌, inl, inr, Bool, true, false, not, ◌&&◌, ◌||◌, nat_le, List, [], ◌∷◌, length, take, drop, refl, sym, ap, ◌∙◌, arith, length-drop}
use Rattle.std.proofs.lemmas.Bool.{le-leb, cases_lt}
use Rattle.std.proofs.lemmas.Bool.Decides.{leb_tells}
use Rattle.std.proofs.lemmas.List.{drop-drop}
use Rattle.std.proofs.Math.Seq.{take-length}
use Rattle.std.proofs.Math.Dec.{leb}
use Rattle.std.proofs.lemmas.Grind.{common_steps}
use Rattle.std.proofs.lemmas.List.Splits.{slice_split_none}
use Rattle.std.proofs.lemmas.List.Sums.{fails_before_first}
use Rattle.std.specs.List.{All, position_or_len}
use Rattle.std.specs.Str.{bytes_eq}
use Rattle.rs_topic.specs.Topics.{levels, slash, hash, plus, is_end}
use Rattle.rs_topic.proofs.LevelLemmas.{one_level, first_of_more, some_level}
use Rattle.std.specs.declared.cmp.Ordering.TheVariants.{Less, Equal, Greater}
use Rattle.rs_topic.specs.Order.{path_cmp, topic_cmp}
use Rattle.rs_topic.specs.Matching.{fits}
use Rattle.rs_topic.specs.Rests.{levels_from}

pub from_within : (text : List ℕ) (at : ℕ) → at ≤ length text → levels_from at text ≡ levels (drop at text)
from_within text at h = rw (le-leb at (length text) h) refl

pub from_start : (text : List ℕ) → levels_from 0 text ≡ levels text
from_start text = from_within text 0 (omega arith)

not_le : (a b : ℕ) → b < a → nat_le a b ≡ false
not_le a b h = grind (arith, leb_tells)

pub no_more : (text : List ℕ) (at : ℕ) → length text < at → levels_from at text ≡ []
no_more text at h = rw (not_le at (length text) h) refl

pub one_more : (text : List ℕ) (at end : ℕ) → at ≤ length text → end ≡ position_or_len (λ c. c == slash) (drop at text) → end ≤ length (drop at text) → levels_from at text ≡ take end (drop at text) ∷ levels_from (at + end + 1) text
one_more text at end h is small = by (cases_lt end (length (drop at text)))
  where
    by : (end < length (drop at text)) ⊎ (length (drop at text) ≤ end) → levels_from at text ≡ take end (drop at text) ∷ levels_from (at + end + 1) text
    by (inl less) =
        let there : at + end + 1 ≤ length text = omega (arith, length-drop at text) in
        let rest : drop (end + 1) (drop at text) ≡ drop (at + end + 1) text = drop-drop (end + 1) at text ∙ ap (λ (n : ℕ). drop n text) (let e : at + (end + 1) ≡ at + end + 1 = omega arith in e) in
        from_within text at h ∙ (first_of_more (drop at text) end is less ∙ ap (λ (w : List (List ℕ)). take end (drop at text) ∷ w) (ap levels rest ∙ sym (from_within text (at + end + 1) there)))
    by (inr all) =
        let gone : length text < at + end + 1 = omega (arith, length-drop at text) in
        let same : end ≡ length (drop at text) = omega arith in
        let whole : take end (drop at text) ≡ drop at text = rw same (take-length (drop at text)) in
        from_within text at h ∙ (one_level (drop at text) (rw (← is) all) ∙ (ap (λ (w : List ℕ). w ∷ []) (sym whole) ∙ ap (λ (w : List (List ℕ)). take end (drop at text) ∷ w) (sym (no_more text (at + end + 1) gone))))

-- a level is a text of one level
pub is_level : (text : List ℕ) (end : ℕ) → end ≡ position_or_len (λ c. c == slash) text → levels (take end text) ≡ take end text ∷ []
is_level text end is =
    let free : All (λ c. (c == slash) ≡ false) (take end text) = rw is (λ k e m. let k' = fails_before_first (λ c. c == slash) text k e (grind (arith, common_steps)) in grind (arith, common_steps)) in
    slice_split_none (λ c. c == slash) (take end text) free

pub last_from : (text : List ℕ) (at : ℕ) → is_end (levels_from at text) ≡ not (nat_le at (length text))
last_from text at = by (nat_le at (length text)) refl
  where
    some : (parts : List (List ℕ)) → is_end parts ≡ false → is_end parts ≡ false
    some [] h = absurd (cc (h))
    some (q ∷ qs) h = refl

    by : (b : Bool) → nat_le at (length text) ≡ b → is_end (levels_from at text) ≡ not (nat_le at (length text))
    by true is = rw is (some (levels (drop at text)) (some_level (drop at text)))
    by false is = rw is refl

pub all_below : (level text : List ℕ) (next : ℕ) → fits (level ∷ levels_from next text) [] ≡ (bytes_eq level (hash ∷ []) && not (nat_le next (length text)))
all_below level text next = ap (λ (b : Bool). bytes_eq level (hash ∷ []) && b) (last_from text next)

pub fits_here : (level : List ℕ) (more names : List (List ℕ)) → fits (level ∷ more) [] ≡ true → fits (level ∷ more) names ≡ true
fits_here level more [] h = h
fits_here level more (name ∷ names) h = rw h refl

pub fits_on : (level : List ℕ) (more : List (List ℕ)) (name : List ℕ) (names : List (List ℕ)) → fits (level ∷ more) [] ≡ false → (bytes_eq level (plus ∷ []) || bytes_eq level name) ≡ true → fits (level ∷ more) (name ∷ names) ≡ fits more names
fits_on level more name names h is = rw (h, is) refl

pub fits_not : (level : List ℕ) (more : List (List ℕ)) (name : List ℕ) (names : List (List ℕ)) → fits (level ∷ more) [] ≡ false → (bytes_eq level (plus ∷ []) || bytes_eq level name) ≡ false → fits (level ∷ more) (name ∷ names) ≡ false
fits_not level more name names h is = rw (h, is) refl

-- ---- the order of two rests

first_is_less : (text : List ℕ) → path_cmp [] (levels text) ≡ Less
first_is_less text = at (levels text) (some_level text)
  where
    at : (parts : List (List ℕ)) → is_end parts ≡ false → path_cmp [] parts ≡ Less
    at [] h = absurd (cc (h))
    at (q ∷ qs) h = refl

last_is_greater : (text : List ℕ) → path_cmp (levels text) [] ≡ Greater
last_is_greater text = at (levels text) (some_level text)
  where
    at : (parts : List (List ℕ)) → is_end parts ≡ false → path_cmp parts [] ≡ Greater
    at [] h = absurd (cc (h))
    at (q ∷ qs) h = refl

pub both_within : (text other : List ℕ) (at from : ℕ) → at ≤ length text → from ≤ length other → path_cmp (levels_from at text) (levels_from from other) ≡ topic_cmp (drop at text) (drop from other)
both_within text other at from h k = rw (from_within text at h, from_within other from k) refl

pub one_within : (text other : List ℕ) (at from : ℕ) → at ≤ length text → length other < from → path_cmp (levels_from at text) (levels_from from other) ≡ Greater
one_within text other at from h k = rw (from_within text at h, no_more other from k) (last_is_greater (drop at text))

pub other_within : (text other : List ℕ) (at from : ℕ) → length text < at → from ≤ length other → path_cmp (levels_from at text) (levels_from from other) ≡ Less
other_within text other at from h k = rw (no_more text at h, from_within other from k) (first_is_less (drop from other))

pub none_within : (text other : List ℕ) (at from : ℕ) → length text < at → length other < from → path_cmp (levels_from at text) (levels_from from other) ≡ Equal
none_within text other at from h k = rw (no_more text at h, no_more other from k) refl
