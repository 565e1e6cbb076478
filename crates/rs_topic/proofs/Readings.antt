-- Faults as tests and as facts, and what readings answer.
use Rattle.std.proofs.Common.{◌≡◌, ℕ, ◌+◌, ◌<◌, ◌≤◌, ◌^◌, zero, suc, Bool, true, false, ◌&&◌, ◌||◌, not, List, [], ◌∷◌, ◌++◌, length, take, drop, refl, sym, ap, ◌∙◌, inl, inr, arith, subst}
use Rattle.std.specs.Prelude.{Option, Some, None, Result, Ok, Err, MatchResult, nat_lt, nat_eq}
use Rattle.std.specs.Bool.{Decides}
use Rattle.std.specs.List.{slice_get, starts_with}
use Rattle.std.specs.Str.{IsUtf8, is_utf8, bytes_eq}
use Rattle.std.specs.Cmp.Lexicographic.{bytes_decides}
use Rattle.std.proofs.lemmas.Str.{IsUtf8-from_is_utf8, is_utf8-from_IsUtf8, IsUtf8-nil}
use Rattle.std.proofs.lemmas.Bool.Decides.{Decides-eqb, Decides-ltb, Decides-not, Decides-or, Decides-like, not_from_Decides}
use Rattle.std.proofs.lemmas.Slice.Eq.{bytes_eq-Decides}
use Rattle.std.proofs.lemmas.List.{take-append-drop}
use Rattle.std.proofs.Math.Seq.{take-append_seam}
use Rattle.rs_topic.specs.Texts.{IsText}
use Rattle.rs_topic.specs.Topics.{plus, hash, share, levels, has, is_end, level_fits, wildcards_fit, has_fault, first_fault, unless, text_faults, name_faults, filter_faults, name_faults_of_text, filter_faults_of_text, read_text, read_name, read_filter, name_of, filter_of}
use Rattle.rs_topic.specs.Meanings.{IsTopicName, IsTopicFilter, IsShared, WildcardsFill, Faulty, IsFirst, here, later, Judges, Reads, IsReadAs}
use Rattle.rs_topic.specs.declared.limits.TheConstants.{MAX_TEXT_SIZE, MAX_LEVELS}
use Rattle.rs_topic.specs.declared.text.TopicFault.{TopicFault}
use Rattle.rs_topic.specs.declared.text.TopicFault.TheVariants.{Empty, TooLong, NotUtf8, HasNul, HasWildcard, BadWildcard, TooManyLevels, Shared, NoMemory}

-- ---- tests of two and three parts

both : (a b : Bool) → (a && b) ≡ true → (a ≡ true) × (b ≡ true)
both true b e = (refl, e)
both false b e = absurd (cc (e))

implied : (a b : Bool) → (not a || b) ≡ true → a ≡ true → b ≡ true
implied true b e h = e
implied false b e h = absurd (cc (h))

implies : (a b : Bool) → (a ≡ true → b ≡ true) → (not a || b) ≡ true
implies true b f = f refl
implies false b f = refl

-- ---- wildcards

plus_at : (parts : List (List ℕ)) → wildcards_fit parts ≡ true → (i : ℕ) (level : List ℕ) → slice_get parts i ≡ Some level → has plus level ≡ true → level ≡ plus ∷ []
plus_at [] h i level is p = absurd (cc (is))
plus_at (part ∷ more) h zero level is p =
    let e : part ≡ level = cc (is) in
    let f = (both _ _ (both (level_fits part (is_end more)) (wildcards_fit more) h).0).0 in
    let P : List ℕ → Type 0 = λ w. w ≡ plus ∷ [] in
    subst P e ((bytes_eq-Decides part (plus ∷ [])).0 (implied (has plus part) _ f (rw e p)))
plus_at (part ∷ more) h (suc i) level is p = plus_at more (both (level_fits part (is_end more)) (wildcards_fit more) h).1 i level is p

hash_at : (parts : List (List ℕ)) → wildcards_fit parts ≡ true → (i : ℕ) (level : List ℕ) → slice_get parts i ≡ Some level → has hash level ≡ true → (level ≡ hash ∷ []) × (i + 1 ≡ length parts)
hash_at [] h i level is p = absurd (cc (is))
hash_at (part ∷ more) h zero level is p =
    let e : part ≡ level = cc (is) in
    let f = (both (not (has plus part) || bytes_eq part (plus ∷ [])) _ (both (level_fits part (is_end more)) (wildcards_fit more) h).0).1 in
    let g = both (bytes_eq part (hash ∷ [])) (is_end more) (implied (has hash part) _ f (rw e p)) in
    let P : List ℕ → Type 0 = λ w. w ≡ hash ∷ [] in
    (subst P e ((bytes_eq-Decides part (hash ∷ [])).0 g.0), ended more g.1)
  where
    ended : (more : List (List ℕ)) → is_end more ≡ true → 0 + 1 ≡ length (part ∷ more)
    ended [] e = refl
    ended (q ∷ qs) e = absurd (cc (e))
hash_at (part ∷ more) h (suc i) level is p =
    let k = hash_at more (both (level_fits part (is_end more)) (wildcards_fit more) h).1 i level is p in
    (k.0, omega (arith, k.1))

tail_fills : (part : List ℕ) (more : List (List ℕ)) → WildcardsFill (part ∷ more) → WildcardsFill more
tail_fills part more w = record {
  plus_alone = λ i level is p. w.plus_alone (suc i) level is p;
  hash_alone = λ i level is p. w.hash_alone (suc i) level is p;
  hash_last = λ i level is p. omega (arith, w.hash_last (suc i) level is p);
}

is_last : (part : List ℕ) (more : List (List ℕ)) → 0 + 1 ≡ length (part ∷ more) → is_end more ≡ true
is_last part [] h = refl
is_last part (q ∷ qs) h = absurd (omega (arith, h))

fits_when_filled : (parts : List (List ℕ)) → WildcardsFill parts → wildcards_fit parts ≡ true
fits_when_filled [] w = refl
fits_when_filled (part ∷ more) w =
    let p = implies (has plus part) (bytes_eq part (plus ∷ [])) (λ h. (bytes_eq-Decides part (plus ∷ [])).1 (w.plus_alone 0 part refl h)) in
    let q = implies (has hash part) (bytes_eq part (hash ∷ []) && is_end more) (λ h. rw ((bytes_eq-Decides part (hash ∷ [])).1 (w.hash_alone 0 part refl h), is_last part more (w.hash_last 0 part refl h)) refl) in
    rw (p, q, fits_when_filled more (tail_fills part more w)) refl

fill_decides : (parts : List (List ℕ)) → Decides (wildcards_fit parts) (WildcardsFill parts)
fill_decides parts = (
  λ h. record {
    plus_alone = plus_at parts h;
    hash_alone = λ i level is p. (hash_at parts h i level is p).0;
    hash_last = λ i level is p. (hash_at parts h i level is p).1;
  },
  fits_when_filled parts,
)

-- ---- the other faults

utf8_decides : (bytes : List ℕ) → Decides (is_utf8 bytes) (IsUtf8 bytes)
utf8_decides bytes = (IsUtf8-from_is_utf8 bytes, is_utf8-from_IsUtf8 bytes)

share_decides : (bytes : List ℕ) → Decides (starts_with nat_eq bytes share) (IsShared bytes)
share_decides bytes = (
  λ h. let e : share ≡ take 7 bytes = (bytes_decides share (take 7 bytes)).0 h in
      (drop 7 bytes, sym (take-append-drop 7 bytes) ∙ ap (λ (w : List ℕ). w ++ drop 7 bytes) (sym e)),
  λ s. (bytes_decides share (take 7 bytes)).1 (sym (ap (take 7) s.1 ∙ take-append_seam share s.0)),
)

pub tells : (bytes : List ℕ) (fault : TopicFault) → Decides (has_fault bytes fault) (Faulty bytes fault)
tells bytes Empty = Decides-eqb (length bytes) 0
tells bytes TooLong = Decides-like (nat_lt MAX_TEXT_SIZE (length bytes)) (λ h. omega (arith, h)) (λ h. omega (arith, h)) (Decides-ltb MAX_TEXT_SIZE (length bytes))
tells bytes NotUtf8 = Decides-not (is_utf8 bytes) (utf8_decides bytes)
tells bytes HasNul = (λ h. h, λ h. h)
tells bytes HasWildcard = Decides-or (has plus bytes) (has hash bytes) (λ h. h, λ h. h) (λ h. h, λ h. h)
tells bytes BadWildcard = Decides-not (wildcards_fit (levels bytes)) (fill_decides (levels bytes))
tells bytes TooManyLevels = Decides-ltb MAX_LEVELS (length (levels bytes))
tells bytes Shared = share_decides bytes
tells bytes NoMemory = (λ h. absurd (cc (h)), λ h. absurd h)

-- ---- the first fault of a list

first_is : (faults : List TopicFault) (bytes : List ℕ) (fault : TopicFault) → first_fault faults bytes ≡ Some fault → IsFirst (Faulty bytes) faults fault
first_is [] bytes fault h = absurd (cc (h))
first_is (f ∷ fs) bytes fault h = at (has_fault bytes f) refl (λ k. first_is fs bytes fault k)
  where
    at : (b : Bool) → has_fault bytes f ≡ b → (first_fault fs bytes ≡ Some fault → IsFirst (Faulty bytes) fs fault) → IsFirst (Faulty bytes) (f ∷ fs) fault
    at true is more =
        let e : f ≡ fault = cc (rw is at h) in
        let P : TopicFault → Type 0 = λ w. IsFirst (Faulty bytes) (f ∷ fs) w in
        subst P e (here ((tells bytes f).0 is))
    at false is more = later (not_from_Decides (has_fault bytes f) (tells bytes f) is) (more (rw is at h))

abbrev pub Without : List ℕ → List TopicFault → Type 0
Without bytes [] = Unit {0}
Without bytes (fault ∷ more) = (¬ Faulty bytes fault) × Without bytes more

none_is : (faults : List TopicFault) (bytes : List ℕ) → first_fault faults bytes ≡ None → Without bytes faults
none_is [] bytes h = tt
none_is (f ∷ fs) bytes h = at (has_fault bytes f) refl (λ k. none_is fs bytes k)
  where
    at : (b : Bool) → has_fault bytes f ≡ b → (first_fault fs bytes ≡ None → Without bytes fs) → Without bytes (f ∷ fs)
    at true is more = absurd (cc (rw is at h))
    at false is more = (not_from_Decides (has_fault bytes f) (tells bytes f) is, more (rw is at h))

none_first : (faults : List TopicFault) (bytes : List ℕ) (fault : TopicFault) → Without bytes faults → IsFirst (Faulty bytes) faults fault → ⊥
none_first [] bytes fault w x'' = elim x'' [ ]
none_first (f ∷ fs) bytes fault w (here p) = w.0 p
none_first (f ∷ fs) bytes fault w (later n more) = none_first fs bytes fault w.1 more

-- ---- who has no fault

above : (n m : ℕ) → ¬ (n ≤ m) → m < n
above n m h = omega (arith, h)

none : (n : ℕ) → ¬ (n ≡ 0) → 0 < n
none n h = omega (arith, h)

sure : (b : Bool) → ¬ (b ≡ false) → b ≡ true
sure true h = refl
sure false h = absurd (h refl)

unsure : (b : Bool) → ¬ (b ≡ true) → b ≡ false
unsure true h = absurd (h refl)
unsure false h = refl

at_most : (n m : ℕ) → ¬ (m < n) → n ≤ m
at_most n m h = omega (arith, h)

not_both : (b : Bool) → b ≡ false → ¬ (b ≡ true)
not_both b e h = absurd (cc (e, h))

is_text_from : (bytes : List ℕ) → ¬ Faulty bytes TooLong → ¬ Faulty bytes NotUtf8 → ¬ Faulty bytes HasNul → IsText bytes
is_text_from bytes long utf8 nul = record {
  short = above (2 ^ 16) (length bytes) long;
  utf8 = sure (is_utf8 bytes) (λ e. utf8 (λ u. not_both (is_utf8 bytes) e (is_utf8-from_IsUtf8 bytes u)));
  no_nul = unsure (has 0 bytes) nul;
}

not_long : (bytes : List ℕ) → IsText bytes → ¬ Faulty bytes TooLong
not_long bytes t h = absurd (omega (arith, t.short, h))

no_bad : (bytes : List ℕ) → IsText bytes → ¬ Faulty bytes NotUtf8
no_bad bytes t h = h (IsUtf8-from_is_utf8 bytes t.utf8)

no_zero : (bytes : List ℕ) → IsText bytes → ¬ Faulty bytes HasNul
no_zero bytes t h = not_both (has 0 bytes) t.no_nul h

text_from : (bytes : List ℕ) → Without bytes text_faults → IsText bytes
text_from bytes w = is_text_from bytes w.0 w.1.0 w.1.1.0

text_without : (bytes : List ℕ) → IsText bytes → Without bytes text_faults
text_without bytes t = (not_long bytes t, (no_bad bytes t, (no_zero bytes t, tt)))

name_when : (bytes : List ℕ) → IsText bytes → Without bytes name_faults_of_text → IsTopicName bytes
name_when bytes t w = record {
  is_text = t;
  some = none (length bytes) w.0;
  no_plus = unsure (has plus bytes) (λ h. w.1.0 (inl h));
  no_hash = unsure (has hash bytes) (λ h. w.1.0 (inr h));
  few_levels = at_most (length (levels bytes)) MAX_LEVELS w.1.1.0;
}

not_empty : (n : ℕ) → 0 < n → ¬ (n ≡ 0)
not_empty n h e = absurd (omega (arith, h, e))

not_many : (n m : ℕ) → n ≤ m → ¬ (m < n)
not_many n m h k = absurd (omega (arith, h, k))

no_wildcard : (bytes : List ℕ) → IsTopicName bytes → ¬ Faulty bytes HasWildcard
no_wildcard bytes n (inl h) = not_both (has plus bytes) n.no_plus h
no_wildcard bytes n (inr h) = not_both (has hash bytes) n.no_hash h

name_without_of_text : (bytes : List ℕ) → IsTopicName bytes → Without bytes name_faults_of_text
name_without_of_text bytes n = (not_empty (length bytes) n.some, (no_wildcard bytes n, (not_many (length (levels bytes)) MAX_LEVELS n.few_levels, tt)))

name_from : (bytes : List ℕ) → Without bytes name_faults → IsTopicName bytes
name_from bytes w = name_when bytes (is_text_from bytes w.1.0 w.1.1.0 w.1.1.1.0) (w.0, w.1.1.1.1)

name_without : (bytes : List ℕ) → IsTopicName bytes → Without bytes name_faults
name_without bytes n =
    let w = name_without_of_text bytes n in
    (w.0, (not_long bytes n.is_text, (no_bad bytes n.is_text, (no_zero bytes n.is_text, w.1))))

filter_when : (bytes : List ℕ) → IsText bytes → Without bytes filter_faults_of_text → IsTopicFilter bytes
filter_when bytes t w = record {
  is_text = t;
  some = none (length bytes) w.0;
  wildcards = fills (wildcards_fit (levels bytes)) (fill_decides (levels bytes)) w.1.1.0;
  few_levels = at_most (length (levels bytes)) MAX_LEVELS w.1.1.1.0;
  not_shared = w.1.0;
}
  where
    fills : (b : Bool) → Decides b (WildcardsFill (levels bytes)) → ¬ ¬ WildcardsFill (levels bytes) → WildcardsFill (levels bytes)
    fills true d h = d.0 refl
    fills false d h = absurd (h (not_from_Decides false d refl))

filter_without_of_text : (bytes : List ℕ) → IsTopicFilter bytes → Without bytes filter_faults_of_text
filter_without_of_text bytes n = (not_empty (length bytes) n.some, (n.not_shared, ((λ h. h n.wildcards), (not_many (length (levels bytes)) MAX_LEVELS n.few_levels, tt))))

filter_from : (bytes : List ℕ) → Without bytes filter_faults → IsTopicFilter bytes
filter_from bytes w = filter_when bytes (is_text_from bytes w.1.0 w.1.1.0 w.1.1.1.0) (w.0, w.1.1.1.1)

filter_without : (bytes : List ℕ) → IsTopicFilter bytes → Without bytes filter_faults
filter_without bytes n =
    let w = filter_without_of_text bytes n in
    (w.0, (not_long bytes n.is_text, (no_bad bytes n.is_text, (no_zero bytes n.is_text, w.1))))

-- ---- what is judged

judged : (Is : List ℕ → Type 0) (faults : List TopicFault) (bytes : List ℕ) → (Without bytes faults → Is bytes) → (Is bytes → Without bytes faults) → Judges Is faults bytes (unless (first_fault faults bytes) bytes)
judged Is faults bytes from to = at (first_fault faults bytes) refl
  where
    at : (o : Option TopicFault) → first_fault faults bytes ≡ o → Judges Is faults bytes (unless o bytes)
    at None e = (refl, from (none_is faults bytes e))
    at (Some fault) e = ((λ i. none_first faults bytes fault (to i) (first_is faults bytes fault e)), first_is faults bytes fault e)

pub name_judged : (text : List ℕ) → IsText text → Judges IsTopicName name_faults_of_text text (name_of text)
unfolding name_of
name_judged text t = judged IsTopicName name_faults_of_text text (name_when text t) (name_without_of_text text)

pub filter_judged : (text : List ℕ) → IsText text → Judges IsTopicFilter filter_faults_of_text text (filter_of text)
unfolding filter_of
filter_judged text t = judged IsTopicFilter filter_faults_of_text text (filter_when text t) (filter_without_of_text text)

-- ---- of a text, its name or its filter

pub name_of_fault : (text : List ℕ) (fault : TopicFault) → Some fault ≡ first_fault name_faults_of_text text → name_of text ≡ Err fault
unfolding name_of
name_of_fault text fault h = rw (← h) refl

pub name_of_none : (text : List ℕ) → None ≡ first_fault name_faults_of_text text → name_of text ≡ Ok text
unfolding name_of
name_of_none text h = rw (← h) refl

pub name_is : (text : List ℕ) → IsText text → None ≡ first_fault name_faults_of_text text → IsTopicName text
name_is text t h = name_when text t (none_is name_faults_of_text text (sym h))

pub filter_of_fault : (text : List ℕ) (fault : TopicFault) → Some fault ≡ first_fault filter_faults_of_text text → filter_of text ≡ Err fault
unfolding filter_of
filter_of_fault text fault h = rw (← h) refl

pub filter_of_none : (text : List ℕ) → None ≡ first_fault filter_faults_of_text text → filter_of text ≡ Ok text
unfolding filter_of
filter_of_none text h = rw (← h) refl

pub filter_is : (text : List ℕ) → IsText text → None ≡ first_fault filter_faults_of_text text → IsTopicFilter text
filter_is text t h = filter_when text t (none_is filter_faults_of_text text (sym h))

-- ---- the faults of a text first

abbrev pub or_else : Option TopicFault → Option TopicFault → Option TopicFault
or_else None other = other
or_else (Some fault) other = Some fault

nothing_in_none : first_fault text_faults [] ≡ None
nothing_in_none = rw (is_utf8-from_IsUtf8 [] IsUtf8-nil) refl

text_first : (faults : List TopicFault) (bytes : List ℕ) → first_fault (TooLong ∷ NotUtf8 ∷ HasNul ∷ faults) bytes ≡ or_else (first_fault text_faults bytes) (first_fault faults bytes)
text_first faults bytes = at (has_fault bytes TooLong) (has_fault bytes NotUtf8) (has_fault bytes HasNul) refl refl refl
  where
    at : (a b c : Bool) → has_fault bytes TooLong ≡ a → has_fault bytes NotUtf8 ≡ b → has_fault bytes HasNul ≡ c → first_fault (TooLong ∷ NotUtf8 ∷ HasNul ∷ faults) bytes ≡ or_else (first_fault text_faults bytes) (first_fault faults bytes)
    at true b c p q r = rw p refl
    at false true c p q r = rw (p, q) refl
    at false false true p q r = rw (p, q, r) refl
    at false false false p q r = rw (p, q, r) refl

empty_first : (faults : List TopicFault) (bytes : List ℕ) → first_fault (Empty ∷ TooLong ∷ NotUtf8 ∷ HasNul ∷ faults) bytes ≡ or_else (first_fault text_faults bytes) (first_fault (Empty ∷ faults) bytes)
empty_first faults [] = rw nothing_in_none refl
empty_first faults (c ∷ cs) =
    let e : has_fault (c ∷ cs) Empty ≡ false = unsure (has_fault (c ∷ cs) Empty) (λ h. absurd (omega (arith, (tells (c ∷ cs) Empty).0 h))) in
    rw e (text_first faults (c ∷ cs))

pub name_faults_split : (bytes : List ℕ) → first_fault name_faults bytes ≡ or_else (first_fault text_faults bytes) (first_fault name_faults_of_text bytes)
name_faults_split bytes = empty_first (HasWildcard ∷ TooManyLevels ∷ []) bytes

pub filter_faults_split : (bytes : List ℕ) → first_fault filter_faults bytes ≡ or_else (first_fault text_faults bytes) (first_fault filter_faults_of_text bytes)
filter_faults_split bytes = empty_first (Shared ∷ BadWildcard ∷ TooManyLevels ∷ []) bytes

-- ---- what is read

refused : (faults : List TopicFault) (bytes : List ℕ) (fault : TopicFault) → Some fault ≡ first_fault faults bytes → IsReadAs (unless (first_fault faults bytes) bytes) (Err fault)
refused faults bytes fault h = inl (rw (← h) refl)

refused_for : (Is : List ℕ → Type 0) (faults : List TopicFault) (bytes : List ℕ) (fault : TopicFault) → (Is bytes → Without bytes faults) → Some fault ≡ first_fault faults bytes → Reads Is faults bytes (Err fault)
refused_for Is faults bytes fault to h =
    let f = first_is faults bytes fault (sym h) in
    inr ((λ i. none_first faults bytes fault (to i) f), f)

found : (faults : List TopicFault) (bytes : List ℕ) → None ≡ first_fault faults bytes → IsReadAs (unless (first_fault faults bytes) bytes) (Ok bytes)
found faults bytes h = inl (rw (← h) refl)

denied : (faults : List TopicFault) (bytes : List ℕ) → None ≡ first_fault faults bytes → IsReadAs (unless (first_fault faults bytes) bytes) (Err NoMemory)
denied faults bytes h = inr (rw (← h) refl, refl)

pub text_refused : (bytes : List ℕ) (fault : TopicFault) → Some fault ≡ first_fault text_faults bytes → IsReadAs (read_text bytes) (Err fault)
unfolding read_text
text_refused bytes fault h = refused text_faults bytes fault h

pub text_refused_for : (bytes : List ℕ) (fault : TopicFault) → Some fault ≡ first_fault text_faults bytes → Reads IsText text_faults bytes (Err fault)
text_refused_for bytes fault h = refused_for IsText text_faults bytes fault (text_without bytes) h

pub text_found : (bytes : List ℕ) → None ≡ first_fault text_faults bytes → IsReadAs (read_text bytes) (Ok bytes)
unfolding read_text
text_found bytes h = found text_faults bytes h

pub text_read_is : (bytes : List ℕ) → None ≡ first_fault text_faults bytes → IsText bytes
text_read_is bytes h = text_from bytes (none_is text_faults bytes (sym h))

pub text_denied : (bytes : List ℕ) → None ≡ first_fault text_faults bytes → IsReadAs (read_text bytes) (Err NoMemory)
unfolding read_text
text_denied bytes h = denied text_faults bytes h

pub name_refused : (bytes : List ℕ) (fault : TopicFault) → Some fault ≡ first_fault name_faults bytes → IsReadAs (read_name bytes) (Err fault)
unfolding read_name
name_refused bytes fault h = refused name_faults bytes fault h

pub name_refused_for : (bytes : List ℕ) (fault : TopicFault) → Some fault ≡ first_fault name_faults bytes → Reads IsTopicName name_faults bytes (Err fault)
name_refused_for bytes fault h = refused_for IsTopicName name_faults bytes fault (name_without bytes) h

pub name_found : (bytes : List ℕ) → None ≡ first_fault name_faults bytes → IsReadAs (read_name bytes) (Ok bytes)
unfolding read_name
name_found bytes h = found name_faults bytes h

pub name_read_is : (bytes : List ℕ) → None ≡ first_fault name_faults bytes → IsTopicName bytes
name_read_is bytes h = name_from bytes (none_is name_faults bytes (sym h))

pub name_found_for : (bytes : List ℕ) → None ≡ first_fault name_faults bytes → Reads IsTopicName name_faults bytes (Ok bytes)
name_found_for bytes h = (refl, name_read_is bytes h)

pub name_denied : (bytes : List ℕ) → None ≡ first_fault name_faults bytes → IsReadAs (read_name bytes) (Err NoMemory)
unfolding read_name
name_denied bytes h = denied name_faults bytes h

pub name_denied_for : (bytes : List ℕ) → None ≡ first_fault name_faults bytes → Reads IsTopicName name_faults bytes (Err NoMemory)
name_denied_for bytes h = inl (refl, name_read_is bytes h)

pub filter_refused : (bytes : List ℕ) (fault : TopicFault) → Some fault ≡ first_fault filter_faults bytes → IsReadAs (read_filter bytes) (Err fault)
unfolding read_filter
filter_refused bytes fault h = refused filter_faults bytes fault h

pub filter_refused_for : (bytes : List ℕ) (fault : TopicFault) → Some fault ≡ first_fault filter_faults bytes → Reads IsTopicFilter filter_faults bytes (Err fault)
filter_refused_for bytes fault h = refused_for IsTopicFilter filter_faults bytes fault (filter_without bytes) h

pub filter_found : (bytes : List ℕ) → None ≡ first_fault filter_faults bytes → IsReadAs (read_filter bytes) (Ok bytes)
unfolding read_filter
filter_found bytes h = found filter_faults bytes h

pub filter_read_is : (bytes : List ℕ) → None ≡ first_fault filter_faults bytes → IsTopicFilter bytes
filter_read_is bytes h = filter_from bytes (none_is filter_faults bytes (sym h))

pub filter_found_for : (bytes : List ℕ) → None ≡ first_fault filter_faults bytes → Reads IsTopicFilter filter_faults bytes (Ok bytes)
filter_found_for bytes h = (refl, filter_read_is bytes h)

pub filter_denied : (bytes : List ℕ) → None ≡ first_fault filter_faults bytes → IsReadAs (read_filter bytes) (Err NoMemory)
unfolding read_filter
filter_denied bytes h = denied filter_faults bytes h

pub filter_denied_for : (bytes : List ℕ) → None ≡ first_fault filter_faults bytes → Reads IsTopicFilter filter_faults bytes (Err NoMemory)
filter_denied_for bytes h = inl (refl, filter_read_is bytes h)

-- a copy of the bytes of a text, or NoMemory
pub text_copied : (bytes : List ℕ) (copy : Result (List ℕ) TopicFault) → None ≡ first_fault text_faults bytes → MatchResult copy (λ t. t ≡ bytes) (λ fault. fault ≡ NoMemory) → IsReadAs (read_text bytes) copy
text_copied bytes (Ok t) h m = rw m (text_found bytes h)
text_copied bytes (Err fault) h m = rw m (text_denied bytes h)

pub text_copied_for : (bytes : List ℕ) (copy : Result (List ℕ) TopicFault) → None ≡ first_fault text_faults bytes → MatchResult copy (λ t. t ≡ bytes) (λ fault. fault ≡ NoMemory) → Reads IsText text_faults bytes copy
text_copied_for bytes (Ok t) h m = (m, text_read_is bytes h)
text_copied_for bytes (Err fault) h m = inl (m, text_read_is bytes h)
