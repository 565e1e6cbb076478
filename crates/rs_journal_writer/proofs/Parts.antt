-- What contracts see of the parts of a writer that keeps what it publishes.
use Rattle.std.proofs.Common.{◌≡◌, ◌⊎◌, ⊎_elim, ℕ, ◌+◌, ◌-◌, ◌<◌, ◌≤◌, Bool, true, false, List, [], ◌∷◌, ◌++◌, drop, length, take, refl, sym, ap, subst, ◌∙◌, append_assoc, append-nil, length-append, arith}
use Rattle.std.proofs.lemmas.List.{drop_all, length-drop, length-take, take-append-drop, take_all}
use Rattle.std.specs.Prelude.{Result, Ok, Err, MatchResult, OnErr, OnOk}
use mathlib.Core.List.{IsPrefix}
use Rattle.rs_message.specs.declared.entry.Entry.{Entry}
use Rattle.rs_store.specs.History.{IsLegal, extended}
use Rattle.std.specs.Ordering.{nat_cmp}
use Rattle.std.specs.List.Sorted.{IsStrictlySortedBy}
use Rattle.rs_store.specs.History.{SerialsRise, serials_of}
use Rattle.rs_store.proofs.Histories.{legal_front, serials_of-append, sorted_front}
use Rattle.rs_version.specs.Space.{HasSpaceFor, HaveOrigins}
use Rattle.rs_version.specs.Writer.{IsHeldBehind, IsReleasedInPart, Written, holds_back, kept_of, released, shows}
use Rattle.rs_journal.specs.declared.journal.Journal.{Journal}
use Rattle.rs_journal.specs.Journals.{may_leave}
use Rattle.rs_journal_writer.specs.declared.kept_writer.TheConstants.{MAX_HELD}
use Rattle.rs_journal.specs.Retaining.{retained_after}
use Rattle.rs_store.specs.History.{AreRetained}
use Rattle.rs_journal_writer.specs.Keeping.{Covers, IsSafe, KeptValue, Survives}
use Rattle.rs_journal_writer.specs.State.{HasImage, IsKeeping, MayStore, Moves, Stores, held_in, ready_in, written_in}
use Rattle.rs_journal_writer.proofs.Moving.{moves_few}
use Rattle.rs_journal_writer.proofs.Storing.{leaves_rest}
use Rattle.sqlite_disk.specs.declared.Disk.{Ghosts}
use Rattle.sqlite_wal.specs.Recovery.{Image}

same_end : {A : Type 0} (xs ys a b : List A) → xs ++ a ≡ ys ++ b → length a ≡ length b → (xs ≡ ys) × (a ≡ b)
same_end [] [] a b is long = (refl, is)
same_end [] (y ∷ ys) a b is long = let n = ap length is in let m = length-append ys b in absurd (omega (arith, n, m, long))
same_end (x ∷ xs) [] a b is long = let n = ap length is in let m = length-append xs a in absurd (omega (arith, n, m, long))
same_end (x ∷ xs) (y ∷ ys) a b is long =
    let heads : x ≡ y = cc (is) in
    let rest = same_end xs ys a b (cc (is)) long in
    (cc (heads, rest.0), rest.1)

-- ---- what is held and what is ready make up all

pub parts_held : (w : Written) (list : List Entry) (n : ℕ) → held_in w list n ++ ready_in list n ≡ w.held ++ list
parts_held w list n =
    let k = length list - n in
    append_assoc w.held (take k list) (drop k list) ∙ ap (λ l. w.held ++ l) (take-append-drop k list)

pub parts_kept : (w : Written) (list : List Entry) (n : ℕ) → kept_of (written_in w list n) ++ ready_in list n ≡ kept_of w ++ list
parts_kept w list n =
    append_assoc w.published (held_in w list n) (ready_in list n) ∙ ap (λ l. w.published ++ l) (parts_held w list n) ∙ sym (append_assoc w.published w.held list)

pub ready_long : (list : List Entry) (n : ℕ) → n ≤ length list → length (ready_in list n) ≡ n
ready_long list n there = let d = length-drop (length list - n) list in omega (arith, d, there)

pub held_long : (w : Written) (list : List Entry) (n : ℕ) → n ≤ length list → length (held_in w list n) + n ≡ length w.held + length list
held_long w list n there =
    let a = ap length (parts_held w list n) in
    let b = length-append (held_in w list n) (ready_in list n) in
    let c = length-append w.held list in
    omega (arith, a, b, c, ready_long list n there)

-- entries that go to the writer change neither what is kept nor what is ready
pub moved_parts : (w w' : Written) (list list' : List Entry) (n : ℕ) → Moves w list w' list' → n ≤ length list → n ≤ length list'
    → (kept_of (written_in w' list' n) ≡ kept_of (written_in w list n)) × (ready_in list' n ≡ ready_in list n)
moved_parts w w' list list' n m there there' =
    same_end (kept_of (written_in w' list' n)) (kept_of (written_in w list n)) (ready_in list' n) (ready_in list n)
    (parts_kept w' list' n ∙ m.whole ∙ sym (parts_kept w list n))
    (ready_long list' n there' ∙ sym (ready_long list n there))

-- the next one that is ready is held
pub next_kept : (w : Written) (list rest : List Entry) (n : ℕ) (e : Entry) → n + 1 ≤ length list → ready_in list (n + 1) ≡ e ∷ rest
    → (kept_of (written_in w list n) ≡ extended (kept_of (written_in w list (n + 1))) e) × (ready_in list n ≡ rest)
next_kept w list rest n e there is =
    let long = ap length is in
    let one = ready_long list (n + 1) there in
    let now = ready_long list n (omega (arith, there)) in
    let same : length (ready_in list n) ≡ length rest = omega (arith, long, one, now) in
    same_end (kept_of (written_in w list n)) (extended (kept_of (written_in w list (n + 1))) e) (ready_in list n) rest
    (parts_kept w list n ∙ sym (parts_kept w list (n + 1)) ∙ ap (λ l. kept_of (written_in w list (n + 1)) ++ l) is
    ∙ sym (append_assoc (kept_of (written_in w list (n + 1))) (e ∷ []) rest))
    same

pub next_held : (w : Written) (list rest : List Entry) (n : ℕ) (e : Entry) → n + 1 ≤ length list → ready_in list (n + 1) ≡ e ∷ rest
    → held_in w list n ≡ held_in w list (n + 1) ++ e ∷ []
next_held w list rest n e there is =
    let long = ap length is in
    let one = ready_long list (n + 1) there in
    let now = ready_long list n (omega (arith, there)) in
    let same : length (ready_in list n) ≡ length rest = omega (arith, long, one, now) in
    (same_end (held_in w list n) (held_in w list (n + 1) ++ e ∷ []) (ready_in list n) rest
    (parts_held w list n ∙ sym (parts_held w list (n + 1)) ∙ ap (λ l. held_in w list (n + 1) ++ l) is
    ∙ sym (append_assoc (held_in w list (n + 1)) (e ∷ []) rest))
    same).0

-- ---- nothing held, nothing ready

none_both : {A : Type 0} (xs ys : List A) → xs ++ ys ≡ [] → (xs ≡ []) × (ys ≡ [])
none_both [] ys is = (refl, is)
none_both (x ∷ xs) ys is = absurd (cc (is))

pub none_ready : (list : List Entry) (n : ℕ) → n ≤ length list → ready_in list n ≡ [] → n ≡ 0
none_ready list n there none = let a = ap length none in omega (arith, a, ready_long list n there)

pub none_waits : (w : Written) (list : List Entry) (n : ℕ) → held_in w list n ≡ [] → ready_in list n ≡ [] → (w.held ≡ []) × (list ≡ [])
none_waits w list n held ready =
    none_both w.held list (sym (parts_held w list n) ∙ ap (λ l. l ++ ready_in list n) held ∙ ready)

pub shown_in : (w : Written) (list : List Entry) (n : ℕ) → w.held ≡ [] → list ≡ [] → written_in w list n ≡ shows w.published
shown_in w list n held none =
    let k = length list - n in
    let nothing : take k list ≡ [] = ap (λ l. take k l) none ∙ take_all k [] (omega arith) in
    let W : List Entry → Written = λ h. record { published = w.published; held = h } in
    ap (λ l. W (w.held ++ l)) nothing ∙ ap W (append-nil w.held ∙ held)

pub shown_released : (w : Written) (list : List Entry) (n : ℕ) → w.held ≡ [] → list ≡ [] → written_in w list n ≡ released (written_in w list n)
shown_released w list n held none =
    let is = shown_in w list n held none in
    is ∙ (ap (λ (l : List Entry). shows l) (sym (append-nil w.published)) ∙ ap released (sym is))

-- all of it published
pub released_in : (w w' : Written) (list list' : List Entry) (n : ℕ) → Moves w list w' list' → n ≡ 0 → w'.held ≡ [] → length list' ≡ n
    → written_in w' list' n ≡ released (written_in w list n)
released_in w w' list list' n m zero held none =
    let empty = nothing list' (none ∙ zero) in
    let is = shown_in w' list' n held empty in
    let kept = (moved_parts w w' list list' n m (omega (arith, zero)) (omega (arith, none))).0 in
    let list : w'.published ≡ kept_of (written_in w list n) = sym (append-nil w'.published) ∙ (sym (ap kept_of is) ∙ kept) in
    is ∙ ap (λ (l : List Entry). shows l) list
  where
    nothing : (l : List Entry) → length l ≡ 0 → l ≡ []
    nothing [] h = refl
    nothing (x ∷ xs) h = absurd (omega (arith, h))

pub held_some : (w : Written) (list : List Entry) (n : ℕ) → n ≤ length list → n < length w.held + length list → held_in w list n ≡ [] → ⊥
held_some w list n there more none =
    let a = ap length none in
    let b = held_long w list n there in
    absurd (omega (arith, a, b, more))

pub in_part : (w w' : Written) (list list' : List Entry) (n : ℕ) → Moves w list w' list' → n ≤ length list → n ≤ length list' → IsReleasedInPart (written_in w list n) (written_in w' list' n)
in_part w w' list list' n m there there' = ((moved_parts w w' list list' n m there there').0, m.more)

pub covers : (w : Written) (list : List Entry) (n : ℕ) (told : List Entry) → IsPrefix told (kept_of w) → IsPrefix told (kept_of (written_in w list n))
covers w list n told p =
    let more = take (length list - n) list in
    (p.0 ++ more, sym (append_assoc told p.0 more) ∙ (ap (λ l. l ++ more) p.1 ∙ append_assoc w.published w.held more))

-- ---- one after the other

pub next_parts : (w : Written) (list rest : List Entry) (n n' : ℕ) (e : Entry) → n' + 1 ≡ n → n ≤ length list → ready_in list n ≡ e ∷ rest
    → (kept_of (written_in w list n') ≡ extended (kept_of (written_in w list n)) e) × (ready_in list n' ≡ rest) × (held_in w list n' ≡ held_in w list n ++ e ∷ [])
next_parts w list rest n n' e is there ready =
    let P : ℕ → Type 0 = λ k. k ≤ length list → ready_in list k ≡ e ∷ rest
    → (kept_of (written_in w list n') ≡ extended (kept_of (written_in w list k)) e) × (ready_in list n' ≡ rest) × (held_in w list n' ≡ held_in w list k ++ e ∷ []) in
    let at : P (n' + 1) = λ some first. let t = next_kept w list rest n' e some first in (t.0, t.1, next_held w list rest n' e some first) in
    subst P is at there ready

pub put_ready : (w w' : Written) (list list' rest : List Entry) (n n' : ℕ) (e : Entry) → Moves w list w' list' → n' + 1 ≡ n → n ≤ length list → n' ≤ length list' → ready_in list n ≡ e ∷ rest
    → (kept_of (written_in w' list' n') ≡ extended (kept_of (written_in w list n)) e) × (ready_in list' n' ≡ drop 1 (ready_in list n))
put_ready w w' list list' rest n n' e m is there there' ready =
    let moved = moved_parts w w' list list' n' m (omega (arith, is, there)) there' in
    let next = next_parts w list rest n n' e is there ready in
    (moved.0 ∙ next.0, moved.1 ∙ (next.1 ∙ sym (ap (λ l. drop 1 l) ready)))

pub put_held : (w w' : Written) (list list' rest : List Entry) (n n' : ℕ) (e : Entry) → Moves w list w' list' → n' + 1 ≡ n → n ≤ length list → n' ≤ length list' → n' < length w'.held + length list' → ready_in list n ≡ e ∷ rest
    → IsHeldBehind (kept_of (written_in w list n)) (written_in w list n) e (written_in w' list' n')
put_held w w' list list' rest n n' e m is there there' some ready =
    ((put_ready w w' list list' rest n n' e m is there there' ready).0, m.more, held_some w' list' n' there' some)

pub shown_less : (w : Written) (list : List Entry) (n : ℕ) → w.held ≡ [] → length list ≡ n → written_in w list n ≡ shows w.published
shown_less w list n held long =
    let zero : length list - n ≡ 0 = omega (arith, long) in
    let W : List Entry → Written = λ h. record { published = w.published; held = h } in
    ap (λ (k : ℕ). W (w.held ++ take k list)) zero ∙ ap W (append-nil w.held ∙ held)

pub put_shown : (w w' : Written) (list list' rest : List Entry) (n n' : ℕ) (e : Entry) → Moves w list w' list' → n' + 1 ≡ n → n ≤ length list → w'.held ≡ [] → length list' ≡ n' → ready_in list n ≡ e ∷ rest
    → written_in w' list' n' ≡ shows (extended (kept_of (written_in w list n)) e)
put_shown w w' list list' rest n n' e m is there held long ready =
    let shown = shown_less w' list' n' held long in
    let kept = (put_ready w w' list list' rest n n' e m is there (omega (arith, long)) ready).0 in
    let all : w'.published ≡ extended (kept_of (written_in w list n)) e = sym (append-nil w'.published) ∙ (sym (ap kept_of shown) ∙ kept) in
    shown ∙ ap (λ (l : List Entry). shows l) all

-- the first entry that waits is the next one that is ready, if nothing is held
pub next_whole : (w w' : Written) (list list' rest : List Entry) (n : ℕ) (e : Entry) → Moves w list w' list' → n ≤ length list → length list' ≡ n → ready_in list n ≡ e ∷ rest → list' ≡ e ∷ rest
next_whole w w' list list' rest n e m there long ready =
    let zero : length list' - n ≡ 0 = omega (arith, long) in
    let all : ready_in list' n ≡ list' = ap (λ (k : ℕ). drop k list') zero in
    let moved = (moved_parts w w' list list' n m there (omega (arith, long))).1 in
    sym all ∙ (moved ∙ ready)

pub next_is : (w w' : Written) (list list' rest more : List Entry) (n : ℕ) (e x : Entry) → Moves w list w' list' → n ≤ length list → length list' ≡ n → ready_in list n ≡ e ∷ rest → list' ≡ x ∷ more → x ≡ e
next_is w w' list list' rest more n e x m there long ready first =
    let same : x ∷ more ≡ e ∷ rest = sym first ∙ next_whole w w' list list' rest n e m there long ready in
    cc (same)

pub next_legal : (limit : ℕ) (w : Written) (list rest : List Entry) (n : ℕ) (e : Entry) → IsLegal limit (kept_of w ++ list) → ready_in list n ≡ e ∷ rest → IsLegal limit (extended (kept_of (written_in w list n)) e)
next_legal limit w list rest n e legal ready =
    let k = kept_of (written_in w list n) in
    let whole : extended k e ++ rest ≡ kept_of w ++ list = append_assoc k (e ∷ []) rest ∙ (ap (λ l. k ++ l) (sym ready) ∙ parts_kept w list n) in
    legal_front limit (extended k e) (kept_of w ++ list) (rest, whole) legal

-- ---- one entry, with nothing before it

pub record IsIdle (w : Written) (list : List Entry) (n : ℕ) : Type 0 where
  pub held : w.held ≡ []
  pub none : list ≡ []
  pub zero : n ≡ 0

pub idle : (w : Written) (list : List Entry) (n : ℕ) (k : KeptValue) → record { written = written_in w list n; ready = ready_in list n } ≡ k → n ≤ length list → k.written.held ≡ [] → k.ready ≡ [] → IsIdle w list n
idle w list n k is there held ready =
    let r : ready_in list n ≡ [] = ap (λ (v : KeptValue). v.ready) is ∙ ready in
    let h : held_in w list n ≡ [] = ap (λ (v : KeptValue). v.written.held) is ∙ held in
    let both = none_waits w list n h r in
    record { held = both.0; none = both.1; zero = none_ready list n there r }

pub ready_zero : (list : List Entry) (n : ℕ) → n ≡ 0 → ready_in list n ≡ []
ready_zero list n zero = drop_all (length list - n) list (omega (arith, zero))

pub ready_whole : (list : List Entry) → ready_in list (length list) ≡ list
ready_whole list = let zero : length list - length list ≡ 0 = omega arith in ap (λ (k : ℕ). drop k list) zero

pub one_is : (w : Written) (list list' : List Entry) (n : ℕ) (e : Entry) → IsIdle w list n → list' ≡ list ++ e ∷ [] → list' ≡ e ∷ []
one_is w list list' n e i is = is ∙ ap (λ l. l ++ e ∷ []) i.none

pub kept_idle : (w : Written) (list : List Entry) (n : ℕ) → IsIdle w list n → kept_of w ++ list ≡ w.published
kept_idle w list n i = ap (λ l. kept_of w ++ l) i.none ∙ (append-nil (kept_of w) ∙ (ap (λ l. w.published ++ l) i.held ∙ append-nil w.published))

pub kept_alone : (w : Written) (list list' : List Entry) (n : ℕ) → IsIdle w list n → kept_of w ++ list' ≡ w.published ++ list'
kept_alone w list list' n i = ap (λ l. l ++ list') (ap (λ l. w.published ++ l) i.held ∙ append-nil w.published)

-- one entry is left, held by the writer or not
pub one_left : (w w' : Written) (list list' : List Entry) (n : ℕ) (e : Entry) → Moves w list w' list' → w.held ≡ [] → list ≡ e ∷ [] → n ≡ 0 → length w'.held + length list' ≡ 1
    → written_in w' list' n ≡ holds_back w.published e
one_left w w' list list' n e m held one zero count =
    let a = ap length one in
    let kept = (moved_parts w w' list list' n m (omega (arith, zero)) (omega (arith, zero))).0 in
    let old : kept_of (written_in w list n) ≡ w.published ++ e ∷ [] =
    sym (append-nil (kept_of (written_in w list n))) ∙ (ap (λ l. kept_of (written_in w list n) ++ l) (sym (ready_zero list n zero)) ∙ (parts_kept w list n
    ∙ (ap (λ l. (w.published ++ l) ++ list) held ∙ (ap (λ l. l ++ list) (append-nil w.published) ∙ ap (λ l. w.published ++ l) one)))) in
    let long = held_long w' list' n (omega (arith, zero)) in
    let both = same_end w'.published w.published (held_in w' list' n) (e ∷ []) (kept ∙ old) (omega (arith, long, zero, count)) in
    let W : List Entry → List Entry → Written = λ p h. record { published = p; held = h } in
    ap (λ p. W p (held_in w' list' n)) both.0 ∙ ap (λ h. W w.published h) both.1

pub one_held : (w : Written) (list : List Entry) (n : ℕ) (e : Entry) → w.held ≡ [] → list ≡ e ∷ [] → n ≡ 0 → written_in w list n ≡ holds_back w.published e
one_held w list n e held one zero =
    let a = ap length one in
    let b = ap length held in
    one_left w w list list n e (record { whole = refl; more = ([], append-nil w.published) }) held one zero (omega (arith, a, b))

pub one_shown : (w w' : Written) (list list' : List Entry) (n : ℕ) (e x : Entry) → Moves w list w' list' → w.held ≡ [] → list ≡ e ∷ [] → n ≡ 0 → w'.held ≡ [] → list ≡ x ∷ list'
    → (written_in w' list' n ≡ shows (extended w.published e)) × (x ≡ e)
one_shown w w' list list' n e x m held one zero none first =
    let same : x ∷ list' ≡ e ∷ [] = sym first ∙ one in
    let empty : list' ≡ [] = cc (same) in
    let shown = shown_in w' list' n none empty in
    let all : w'.published ≡ extended w.published e =
    sym (append-nil w'.published) ∙ (ap (λ l. w'.published ++ l) (sym none) ∙ (sym (append-nil (kept_of w')) ∙ (ap (λ l. kept_of w' ++ l) (sym empty) ∙ (m.whole
    ∙ (ap (λ l. (w.published ++ l) ++ list) held ∙ (ap (λ l. l ++ list) (append-nil w.published) ∙ ap (λ l. w.published ++ l) one)))))) in
    (shown ∙ ap (λ (l : List Entry). shows l) all, cc (same))

-- ---- what anybody was told

-- an image that keeps all that is published, held and waiting
told_whole : (w : Written) (list : List Entry) (n : ℕ) (left : Image) (told : List Entry) → IsPrefix told (kept_of w) → HasImage left (kept_of w ++ list)
    → (s : Survives w.published (held_in w list n ++ ready_in list n) left) × IsPrefix told (w.published ++ s.front)
told_whole w list n left told p has =
    let all = w.held ++ list in
    let R : List Entry → Type 0 = λ l. AreRetained l (retained_after has.operations) in
    let s : Survives w.published (held_in w list n ++ ready_in list n) left = record {
      front = all;
      begins = ([], append-nil all ∙ sym (parts_held w list n));
      operations = has.operations;
      formed = has.formed;
      keeps = has.keeps;
      retained = subst R (append_assoc w.published w.held list) has.same;
    } in
    (s, (p.0 ++ list, sym (append_assoc told p.0 list) ∙ (ap (λ (l : List Entry). l ++ list) p.1 ∙ append_assoc w.published w.held list)))

-- one that keeps what is published
told_old : (w : Written) (list : List Entry) (n : ℕ) (left : Image) (told rest : List Entry) → told ++ rest ≡ w.published → HasImage left w.published
    → (s : Survives w.published (held_in w list n ++ ready_in list n) left) × IsPrefix told (w.published ++ s.front)
told_old w list n left told rest is has =
    let R : List Entry → Type 0 = λ l. AreRetained l (retained_after has.operations) in
    let s : Survives w.published (held_in w list n ++ ready_in list n) left = record {
      front = [];
      begins = (held_in w list n ++ ready_in list n, refl);
      operations = has.operations;
      formed = has.formed;
      keeps = has.keeps;
      retained = subst R (sym (append-nil w.published)) has.same;
    } in
    (s, (rest, is ∙ sym (append-nil w.published)))

-- one that keeps what waits, too, if nothing else is held
told_new : (w : Written) (list : List Entry) (n : ℕ) (left : Image) (told rest : List Entry) → told ++ rest ≡ w.published → w.held ≡ [] → HasImage left (w.published ++ list)
    → (s : Survives w.published (held_in w list n ++ ready_in list n) left) × IsPrefix told (w.published ++ s.front)
told_new w list n left told rest is none has =
    let whole : list ≡ held_in w list n ++ ready_in list n = ap (λ (h : List Entry). h ++ list) (sym none) ∙ sym (parts_held w list n) in
    let s : Survives w.published (held_in w list n ++ ready_in list n) left = record {
      front = list;
      begins = ([], append-nil list ∙ whole);
      operations = has.operations;
      formed = has.formed;
      keeps = has.keeps;
      retained = has.same;
    } in
    (s, (rest ++ list, sym (append_assoc told rest list) ∙ ap (λ (l : List Entry). l ++ list) is))

-- ---- the invariant

survives_all : (w : Written) (list : List Entry) (n : ℕ) (left : Image) (front : List Entry) → IsPrefix front (held_in w list n ++ ready_in list n) → HasImage left (w.published ++ front)
    → Survives w.published (held_in w list n ++ ready_in list n) left
survives_all w list n left front begins has = record {
  front = front;
  begins = begins;
  operations = has.operations;
  formed = has.formed;
  keeps = has.keeps;
  retained = has.same;
}

pub value_legal : (limit : ℕ) (w : Written) (list : List Entry) (n : ℕ) (k : KeptValue) (e : Entry) → record { written = written_in w list n; ready = ready_in list n } ≡ k
    → IsLegal limit (extended k.written.published e) → IsLegal limit (extended w.published e)
value_legal limit w list n k e is legal =
    let same : w.published ≡ k.written.published = ap (λ (v : KeptValue). v.written.published) is in
    subst (λ l. IsLegal limit (extended l e)) (sym same) legal

pub match_of : {T E : Type 0} (r : Result T E) (P Q A B : Type 0) → OnOk r P → OnErr r Q → (P → A) → (Q → B) → MatchResult r (λ _. A) (λ _. B)
match_of (Ok t) P Q A B p q f h = f p
match_of (Err e) P Q A B p q f h = h q

pub ready_some : (list rest : List Entry) (n : ℕ) (e : Entry) → n ≤ length list → ready_in list n ≡ e ∷ rest → (n - 1) + 1 ≡ n
ready_some list rest n e there ready =
    let a = ap length ready in
    let b = ready_long list n there in
    omega (arith, a, b)

-- ---- a batch

rises_front : (front rest : List Entry) → SerialsRise (front ++ rest) → SerialsRise front
rises_front front rest rises = λ place.
    sorted_front (serials_of place front) (serials_of place rest) (subst (IsStrictlySortedBy nat_cmp) (serials_of-append place front rest) (rises place))

pub batch_legal : (limit : ℕ) (w : Written) (list list' changes : List Entry) (n count : ℕ) (k : KeptValue) → record { written = written_in w list n; ready = ready_in list n } ≡ k → k.written.held ≡ []
    → list' ≡ take count changes → HaveOrigins list' → SerialsRise (kept_of k.written ++ changes) → HasSpaceFor limit k.written.published count → IsLegal limit (w.published ++ list')
batch_legal limit w list list' changes n count k is held first origins rises space =
    let p = k.written.published in
    let same : p ≡ w.published = sym (ap (λ (v : KeptValue). v.written.published) is) in
    let kept : kept_of k.written ≡ p = ap (λ l. p ++ l) held ∙ append-nil p in
    let split : kept_of k.written ++ changes ≡ (p ++ list') ++ drop count changes =
    ap (λ l. l ++ changes) kept ∙ (ap (λ l. p ++ l) (sym (take-append-drop count changes)) ∙ (sym (append_assoc p (take count changes) (drop count changes))
    ∙ ap (λ l. (p ++ l) ++ drop count changes) (sym first))) in
    let short = length-take count changes in
    let long = ap length first in
    let rising = rises_front (p ++ list') (drop count changes) (subst (λ l. SerialsRise l) split rises) in
    subst (λ l. IsLegal limit (l ++ list')) same (space list' (omega (arith, short, long)) origins rising)

pub batch_shown : (w : Written) (list list' : List Entry) (n n' : ℕ) (k : KeptValue) → record { written = written_in w list n; ready = ready_in list n } ≡ k → IsIdle w list n → length list' ≡ n' → written_in w list' n' ≡ k.written
batch_shown w list list' n n' k is i long =
    shown_less w list' n' i.held long ∙ (sym (shown_in w list n i.held i.none) ∙ ap (λ (v : KeptValue). v.written) is)

pub next_of : {A : Type 0} (ready : List A) (e : A) → (ready ≡ []) ⊎ ((rest : List A) × (ready ≡ e ∷ rest)) → (ready ≡ [] → ⊥) → (rest : List A) × (ready ≡ e ∷ rest)
next_of ready e next some = ⊎_elim (λ none. absurd (some none)) (λ t. t) next

module _ {D : Type 0} {g : Ghosts D} where
  pub keeping_new : (limit own : ℕ) (w : Written) (it : Journal D g) (list : List Entry) → list ≡ [] → own ≡ limit → w.held ≡ [] → IsLegal limit w.published → Stores it w.published → IsKeeping limit own w it list 0 false
  keeping_new limit own w it list none is held legal stores =
      let same : w.published ≡ kept_of w ++ list = sym (append-nil w.published) ∙ (ap (λ l. w.published ++ l) (sym held) ∙ (sym (append-nil (kept_of w)) ∙ ap (λ l. kept_of w ++ l) (sym none))) in
      let a = ap length none in
      let b = ap length held in
      record {
        limit_is = is;
        legal = subst (λ l. IsLegal limit l) same legal;
        few = omega (arith, a, b);
        counted = omega arith;
        stored = subst (λ l. Stores it l) same stores;
      }

  -- entries that go to the writer
  pub keeping_moved : (limit own : ℕ) (w w' : Written) (it : Journal D g) (list list' : List Entry) (n : ℕ) (in_doubt : Bool) → IsKeeping limit own w it list n in_doubt → in_doubt ≡ false
      → Moves w list w' list' → n ≤ length list' → IsKeeping limit own w' it list' n in_doubt
  keeping_moved limit own w w' it list list' n true k sure m there = absurd (cc (sure))
  keeping_moved limit own w w' it list list' n false k sure m there = record {
    limit_is = k.limit_is;
    legal = subst (λ l. IsLegal limit l) (sym m.whole) k.legal;
    few = omega (arith, k.few, moves_few w w' list list' m);
    counted = there;
    stored = subst (λ l. Stores it l) (sym m.whole) k.stored;
  }

  -- the next one that is ready is put
  pub keeping_less : (limit own : ℕ) (w : Written) (it : Journal D g) (list : List Entry) (n n' : ℕ) (in_doubt : Bool) → IsKeeping limit own w it list n in_doubt → n' ≤ n → IsKeeping limit own w it list n' in_doubt
  keeping_less limit own w it list n n' in_doubt k less = record { limit_is = k.limit_is; legal = k.legal; few = k.few; counted = omega (arith, k.counted, less); stored = k.stored }

  -- whatever a crash leaves stands for what is published
  pub safe : (limit own : ℕ) (w : Written) (it : Journal D g) (list : List Entry) (n : ℕ) (in_doubt : Bool) → IsKeeping limit own w it list n in_doubt
      → IsSafe (may_leave it) (record { written = written_in w list n; ready = ready_in list n })
  safe limit own w it list n false k = λ left may.
      let all = w.held ++ list in
      let stores : Stores it (kept_of w ++ list) = k.stored in
      let I : List Entry → Type 0 = λ l. HasImage left l in
      survives_all w list n left all ([], append-nil all ∙ sym (parts_held w list n))
      (subst I (append_assoc w.published w.held list) (record { operations = stores.standing; formed = stores.formed; keeps = leaves_rest it stores.standing stores.rests left may; same = stores.same }))
  safe limit own w it list n true k = λ left may.
      let stored : (w.held ≡ []) × MayStore it w.published list = k.stored in
      let I : List Entry → Type 0 = λ l. HasImage left l in
      let whole : list ≡ held_in w list n ++ ready_in list n = ap (λ (h : List Entry). h ++ list) (sym stored.0) ∙ sym (parts_held w list n) in
      ⊎_elim
      (λ old. survives_all w list n left [] (held_in w list n ++ ready_in list n, refl) (subst I (sym (append-nil w.published)) old))
      (λ new. survives_all w list n left list ([], append-nil list ∙ whole) new)
      (stored.1 left may)

  -- so it does for all that anybody was told
  pub safe_told : (limit own : ℕ) (w : Written) (it : Journal D g) (list : List Entry) (n : ℕ) (in_doubt : Bool) (told : List Entry) → IsKeeping limit own w it list n in_doubt → IsPrefix told (kept_of w)
      → Covers (may_leave it) (record { written = written_in w list n; ready = ready_in list n }) told
  safe_told limit own w it list n false told k p = λ left may.
      let stores : Stores it (kept_of w ++ list) = k.stored in
      told_whole w list n left told p (record { operations = stores.standing; formed = stores.formed; keeps = leaves_rest it stores.standing stores.rests left may; same = stores.same })
  safe_told limit own w it list n true told k p = λ left may.
      let stored : (w.held ≡ []) × MayStore it w.published list = k.stored in
      let is : told ++ p.0 ≡ w.published = p.1 ∙ (ap (λ (h : List Entry). w.published ++ h) stored.0 ∙ append-nil w.published) in
      ⊎_elim
      (λ old. told_old w list n left told p.0 is old)
      (λ new. told_new w list n left told p.0 is stored.0 new)
      (stored.1 left may)

  -- a commit
  pub keeping_refused : (limit own : ℕ) (w : Written) (it it' : Journal D g) (list list' : List Entry) (n : ℕ) (in_doubt : Bool) → IsKeeping limit own w it list n in_doubt → in_doubt ≡ false → IsIdle w list n
      → list' ≡ [] → ((before : List Entry) → Stores it before → Stores it' before) → IsKeeping limit own w it' list' n in_doubt
  keeping_refused limit own w it it' list list' n true k sure i none same = absurd (cc (sure))
  keeping_refused limit own w it it' list list' n false k sure i none same =
      let P : List Entry → Type 0 = λ l. IsKeeping limit own w it' l n false in
      subst P (i.none ∙ sym none) (record { limit_is = k.limit_is; legal = k.legal; few = k.few; counted = k.counted; stored = same (kept_of w ++ list) k.stored })

  pub keeping_kept : (limit own : ℕ) (w : Written) (it it' : Journal D g) (list list' : List Entry) (n n' : ℕ) (in_doubt : Bool) → IsKeeping limit own w it list n in_doubt → in_doubt ≡ false → IsIdle w list n
      → IsLegal limit (w.published ++ list') → length list' ≤ MAX_HELD → n' ≤ length list' → ((before : List Entry) → Stores it before → Stores it' (before ++ list')) → IsKeeping limit own w it' list' n' in_doubt
  keeping_kept limit own w it it' list list' n n' true k sure i legal few there more = absurd (cc (sure))
  keeping_kept limit own w it it' list list' n n' false k sure i legal few there more =
      let a = ap length i.held in
      let was : Stores it w.published = subst (λ l. Stores it l) (kept_idle w list n i) k.stored in
      record {
        limit_is = k.limit_is;
        legal = subst (λ l. IsLegal limit l) (sym (kept_alone w list list' n i)) legal;
        few = omega (arith, a, few);
        counted = there;
        stored = subst (λ l. Stores it' l) (sym (kept_alone w list list' n i)) (more w.published was);
      }

  pub keeping_doubtful : (limit own : ℕ) (w : Written) (it it' : Journal D g) (list list' : List Entry) (n n' : ℕ) (in_doubt : Bool) → IsKeeping limit own w it list n in_doubt → in_doubt ≡ false → IsIdle w list n
      → IsLegal limit (w.published ++ list') → length list' ≤ MAX_HELD → n' ≤ length list' → ((before : List Entry) → Stores it before → MayStore it' before list') → IsKeeping limit own w it' list' n' true
  keeping_doubtful limit own w it it' list list' n n' true k sure i legal few there may = absurd (cc (sure))
  keeping_doubtful limit own w it it' list list' n n' false k sure i legal few there may =
      let a = ap length i.held in
      let was : Stores it w.published = subst (λ l. Stores it l) (kept_idle w list n i) k.stored in
      record {
        limit_is = k.limit_is;
        legal = subst (λ l. IsLegal limit l) (sym (kept_alone w list list' n i)) legal;
        few = omega (arith, a, few);
        counted = there;
        stored = (i.held, may w.published was);
      }

  -- what was done to the journal changes nothing of what is kept
  pub keeping_tidied : (limit own : ℕ) (w : Written) (it it' : Journal D g) (list : List Entry) (n : ℕ) (in_doubt : Bool) → IsKeeping limit own w it list n in_doubt → in_doubt ≡ false → IsIdle w list n
      → (Stores it w.published → Stores it' w.published) → IsKeeping limit own w it' list n in_doubt
  keeping_tidied limit own w it it' list n true k sure i same = absurd (cc (sure))
  keeping_tidied limit own w it it' list n false k sure i same =
      let none = kept_idle w list n i in
      record {
        limit_is = k.limit_is;
        legal = k.legal;
        few = k.few;
        counted = k.counted;
        stored = subst (λ l. Stores it' l) (sym none) (same (subst (λ l. Stores it l) none k.stored));
      }

  -- the same in doubt
  pub keeping_untidy : (limit own : ℕ) (w : Written) (it it' : Journal D g) (list : List Entry) (n : ℕ) (in_doubt : Bool) → IsKeeping limit own w it list n in_doubt → in_doubt ≡ false → IsIdle w list n
      → (Stores it w.published → MayStore it' w.published []) → IsKeeping limit own w it' list n true
  keeping_untidy limit own w it it' list n true k sure i may = absurd (cc (sure))
  keeping_untidy limit own w it it' list n false k sure i may = record {
    limit_is = k.limit_is;
    legal = k.legal;
    few = k.few;
    counted = k.counted;
    stored = (i.held, subst (λ l. MayStore it' w.published l) (sym i.none) (may (subst (λ l. Stores it l) (kept_idle w list n i) k.stored)));
  }

  pub doubt_none : (limit own : ℕ) (w : Written) (it : Journal D g) (list : List Entry) (n : ℕ) (in_doubt : Bool) → IsKeeping limit own w it list n in_doubt → in_doubt ≡ true → w.held ≡ []
  doubt_none limit own w it list n true k sure = let stored : (w.held ≡ []) × MayStore it w.published list = k.stored in stored.0
  doubt_none limit own w it list n false k sure = absurd (cc (sure))

  pub keeping_one : (limit own : ℕ) (w : Written) (it it' : Journal D g) (list list' : List Entry) (n : ℕ) (e : Entry) (in_doubt : Bool) → IsKeeping limit own w it list n in_doubt → in_doubt ≡ false
      → IsIdle w list n → list' ≡ list ++ e ∷ [] → IsLegal limit (extended w.published e) → ((before : List Entry) → Stores it before → Stores it' (before ++ list')) → IsKeeping limit own w it' list' n in_doubt
  keeping_one limit own w it it' list list' n e in_doubt k sure i more legal stores =
      let one = one_is w list list' n e i more in
      let long = ap length one in
      let zero = i.zero in
      keeping_kept limit own w it it' list list' n n in_doubt k sure i (subst (λ l. IsLegal limit (w.published ++ l)) (sym one) legal) (omega (arith, long)) (omega (arith, zero)) stores
