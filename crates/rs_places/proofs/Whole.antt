-- From what is settled to one statement about a whole run.
use Rattle.std.proofs.Common.{◌≡◌, ◌⊎◌, ⊎_elim, inl, inr, ℕ, zero, suc, ◌+◌, ◌-◌, ◌^◌, ◌==◌, ◌<◌, ◌≤◌, Bool, true, false, cond, List, [], ◌∷◌, ◌++◌, length, map, get_or, take, refl, sym, ap, subst, ◌∙◌, append_assoc, length-append, arith}
use Rattle.std.specs.Prelude.{Option, Some, MatchOption, Ok, Err, slice_get}
use Rattle.std.specs.List.{All, AllByRecursion, AllZip, filter}
use mathlib.Core.List.{IsPrefix}
use Rattle.std.proofs.lemmas.List.{append-nil, length-map, map-append}
use Rattle.std.proofs.lemmas.List.Elements.{All-more, filter-append, recursion_from_All}
use Rattle.rs_message.specs.declared.entry.Entry.{Entry}
use Rattle.rs_store.specs.Adding.{Adds}
use Rattle.rs_store.specs.History.{IsLegal, sweep_after}
use Rattle.rs_store.proofs.Entries.{all_push}
use Rattle.rs_version.specs.First.{AreOwn}
use Rattle.rs_version.specs.Writer.{Written, kept_of}
use Rattle.rs_version.specs.declared.fault.PutFault.TheVariants.{Full, Held, NoMemory, Stale}
use Rattle.rs_intake_line.specs.Lines.{Line, Received, new_line, new_lines}
use Rattle.rs_intake_queue.specs.Ends.{Closed}
use Rattle.rs_intake_queue.specs.declared.job.TheConstants.{MAX_CHANGES}
use Rattle.rs_intake_queue.specs.Parts.{IsPart}
use Rattle.rs_intake_queue.specs.QueueRule.{of_place}
use Rattle.rs_intake_queue.proofs.Parts.{part_behind}
use Rattle.rs_intake_line.specs.Done.{AreDone, IsDone, IsWritten, Outcome, Told, is_refused, not_refused}
use Rattle.rs_intake.specs.Causes.{HaveEnded, IsCause}
use Rattle.rs_intake.specs.Settling.{AreOfPlaces, AreTaken, AreTakenInOrder, EachOnce}
use Rattle.rs_intake.specs.declared.cause.Cause.{Cause}
use Rattle.rs_intake.specs.declared.cause.Cause.TheVariants.{AllEnded, MostTaken, QueueGone}
use Rattle.rs_intake_line.specs.Sweeps.{IsSweptAtMost, without_sweeps}
use Rattle.rs_intake.proofs.First.{own_elsewhere}
use Rattle.rs_session.specs.Gate.{Extends, Sends}
use Rattle.rs_places_steps.specs.Visits.{Place}
use Rattle.rs_places_steps.specs.Places.{IsPlaceServed, Left, left_at, places_of}
use Rattle.rs_places_steps.specs.Shared.{SharedValue}
use Rattle.rs_places.specs.Gates.{handed_on}
use Rattle.rs_places_steps.specs.Within.{ArePublications}
use Rattle.rs_places.specs.Store.{IsEndOfRun, IsLineOf, IsPlaceOf, IsRunTo, IsSettled, IsStoreRun, IsUnsettled, IsWriterRun, gates_of, new_gates}
use Rattle.rs_places_steps.specs.Turns.{Connections}
use Rattle.rs_places.proofs.EachOnce.{each_once}
use Rattle.rs_places_steps.proofs.Each.{each_length, each_with}
use Rattle.rs_places_steps.proofs.Places.{places_length}
use Rattle.rs_places_steps.proofs.Within.{visits_send, visits_within}

part_filter : {A : Type 0} (f : A → Bool) (xs ys : List A) → IsPart xs ys → IsPart (filter f xs) (filter f ys)
part_filter f [] ys p = tt
part_filter f (x ∷ xs) [] p = absurd p
part_filter {A} f (x ∷ xs) (y ∷ ys) p = ⊎_elim
    (λ (t : (x ≡ y) × IsPart xs ys). let P : A → Type 0 = λ z. IsPart (cond (f z) (z ∷ filter f xs) (filter f xs)) (filter f (y ∷ ys)) in subst P (sym t.0) (both (f y) (part_filter f xs ys t.1)))
    (λ (t : IsPart (x ∷ xs) ys). more (f y) (part_filter f (x ∷ xs) ys t))
    p
  where
    both : (b : Bool) → IsPart (filter f xs) (filter f ys) → IsPart (cond b (y ∷ filter f xs) (filter f xs)) (cond b (y ∷ filter f ys) (filter f ys))
    both true h = inl (refl, h)
    both false h = h

    more : (b : Bool) → IsPart (filter f (x ∷ xs)) (filter f ys) → IsPart (filter f (x ∷ xs)) (cond b (y ∷ filter f ys) (filter f ys))
    more true h = part_behind (filter f (x ∷ xs)) (filter f ys) y h
    more false h = h

not_refused_part : (entries : List Entry) (outcomes : List Outcome) → IsPart (not_refused entries outcomes) entries
not_refused_part [] outcomes = tt
not_refused_part (entry ∷ entries) [] = tt
not_refused_part (entry ∷ entries) (outcome ∷ outcomes) = go (is_refused outcome) (not_refused_part entries outcomes)
  where
    go : (b : Bool) → IsPart (not_refused entries outcomes) entries → IsPart (cond b (not_refused entries outcomes) (entry ∷ not_refused entries outcomes)) (entry ∷ entries)
    go true h = part_behind (not_refused entries outcomes) entries entry h
    go false h = inl (refl, h)

part_behind_all : {A : Type 0} (first xs ys : List A) → IsPart xs ys → IsPart (first ++ xs) (first ++ ys)
part_behind_all [] xs ys p = p
part_behind_all (x ∷ first) xs ys p = inl (refl, part_behind_all first xs ys p)

pub written_part : (limit places : ℕ) (first entries kept : List Entry) (ways : List Told) → IsWritten limit places first entries kept ways → IsPart (without_sweeps kept) (first ++ entries)
written_part limit places first entries kept ways w =
    let P : List Entry → Type 0 = λ l. IsPart l (first ++ entries) in
    subst P (sym w.changes) (part_behind_all first (not_refused entries w.outcomes) entries (not_refused_part entries w.outcomes))

part_of_front : {A : Type 0} (xs ys zs : List A) → IsPart xs ys → IsPart xs (ys ++ zs)
part_of_front [] ys zs part = tt
part_of_front (x ∷ xs) [] zs part = absurd part
part_of_front (x ∷ xs) (y ∷ ys) zs part = ⊎_elim (λ t. inl (t.0, part_of_front xs ys zs t.1)) (λ t. inr (part_of_front (x ∷ xs) ys zs t)) part

-- ---- what a place sent

place_sends : (limit : ℕ) (place : Place) (left : Left) → place.gate.mark.sent ≡ Some [] → place.gate.pending ≡ [] → (served : IsPlaceServed limit place left) → ArePublications 1 place.gate served.visits left.line.sent
place_sends limit place left fresh none served =
    let (entries, sends, are) = visits_send limit 1 place.gate served.visits served.last none served.connections in
    let P : Option (List Entry) → Type 0 = λ o. Sends o entries served.last.mark.sent in
    let Q : Option (List Entry) → Type 0 = λ o. Sends (Some []) entries o in
    let is : left.line.sent ≡ entries = subst Q served.sent (subst P fresh sends) in
    let R : List Entry → Type 0 = λ l. ArePublications 1 place.gate served.visits l in
    subst R (sym is) are

-- ---- the list that comes of another

adds_extends : (limit : ℕ) (kept : List Entry) (entry : Entry) (kept' : List Entry) → Adds limit kept entry (λ list. kept' ≡ list) → Extends kept' kept
adds_extends limit kept entry kept' (inl a) = (entry ∷ [], a.1)
adds_extends limit kept entry kept' (inr a) =
    let sweep = sweep_after a.0.message.received kept in
    (sweep ∷ entry ∷ [], a.1 ∙ append_assoc kept (sweep ∷ []) (entry ∷ []))

swept_extends : (limit : ℕ) (kept : List Entry) (entry : Entry) (kept' : List Entry) → IsSweptAtMost limit kept entry kept' → Extends kept' kept
swept_extends limit kept entry kept' (inl same) = ([], same ∙ sym (append-nil kept))
swept_extends limit kept entry kept' (inr s) = (sweep_after s.0.message.received kept ∷ [], s.1)

one_extends : (limit : ℕ) (kept : List Entry) (entry : Entry) (outcome : Outcome) (kept' : List Entry) → IsDone limit kept entry outcome kept' → Extends kept' kept
one_extends limit kept entry (Ok r) kept' is = adds_extends limit kept entry kept' is.0
one_extends limit kept entry (Err Full) kept' is = ([], is.1 ∙ sym (append-nil kept))
one_extends limit kept entry (Err Stale) kept' is = absurd is
one_extends limit kept entry (Err NoMemory) kept' is = swept_extends limit kept entry kept' is
one_extends limit kept entry (Err Held) kept' is = adds_extends limit kept entry kept' is

done_extends : (limit : ℕ) (kept entries : List Entry) (outcomes : List Outcome) (kept' : List Entry) → AreDone limit kept entries outcomes kept' → Extends kept' kept
done_extends limit kept [] [] kept' are = ([], are ∙ sym (append-nil kept))
done_extends limit kept [] (outcome ∷ outcomes) kept' are = absurd are
done_extends limit kept (entry ∷ entries) [] kept' are = absurd are
done_extends limit kept (entry ∷ entries) (outcome ∷ outcomes) kept' are =
    let one = one_extends limit kept entry outcome are.0 are.1 in
    let rest = done_extends limit are.0 entries outcomes kept' are.2 in
    (one.0 ++ rest.0, rest.1 ∙ (ap (λ (l : List Entry). l ++ rest.0) one.1 ∙ append_assoc kept one.0 rest.0))

-- ---- the writer, the lines and the places

abbrev writer_run : (most_held limit places version : ℕ) (w : Written) (first entries : List Entry) (ways : List Told) → IsWritten limit places first entries (kept_of w) ways → IsLegal limit (kept_of w) → AreOfPlaces places entries → version ≡ length w.published → length w.held ≤ most_held
    → IsWriterRun most_held limit places first version
writer_run most_held limit places version w first entries ways written legal placed version_is few = record {
  history = kept_of w;
  legal = legal;
  begins = done_extends limit first entries written.outcomes (kept_of w) written.done;
  published = w.published;
  held = w.held;
  few = few;
  whole = refl;
  entries = version_is;
  taken = entries;
  outcomes = written.outcomes;
  done = written.done;
  not_refused_are = written.changes;
  placed = placed;
  not_refused_of = λ place. ap (of_place place) written.changes;
}

-- why the writer ended
end_of_run : (places : ℕ) (received : Received) (cause : Cause) (lines : List Closed) → IsCause places (2 ^ 64 - 1) received cause
    → (HaveEnded places received.ends → AreTaken received.entries lines) → IsEndOfRun received.entries lines cause
end_of_run places received AllEnded lines is taken = taken is
end_of_run places received MostTaken lines is taken =
    let C : Type 0 = 2 ^ 64 ≤ length received.entries + MAX_CHANGES in
    ⊎_elim (λ (most : 2 ^ 64 - 1 ≤ length received.entries). let fits : C = omega (arith, most) in fits) (λ (most : C). most) is
end_of_run places received (QueueGone gone) lines is taken = is

pub line_of : (history first entries : List Entry) (line : Closed) → AreOwn first → 0 < line.place → IsPart (without_sweeps history) (first ++ entries) → Extends line.sent (of_place line.place entries) → IsLineOf history entries line
line_of history first entries line own some kept taken =
    let here = of_place line.place (without_sweeps history) in
    let Q : List Entry → Type 0 = λ l. IsPart here l in
    let theirs : of_place line.place (first ++ entries) ≡ of_place line.place entries =
    filter-append (λ (e : Entry). e.origin.place == line.place) first entries ∙ ap (λ (l : List Entry). l ++ of_place line.place entries) (own_elsewhere line.place some first own) in
    let part = subst Q theirs (part_filter (λ e. e.origin.place == line.place) (without_sweeps history) (first ++ entries) kept) in
    record { taken = taken; part = subst Q (sym taken.1) (part_of_front here (of_place line.place entries) taken.0 part) }

abbrev IsFresh : Place → Type 0
IsFresh place = (place.gate.mark.sent ≡ Some []) × (place.gate.pending ≡ []) × (0 < place.gate.mark.place)

abbrev IsKnown : List Entry → List Entry → Left → Type 0
IsKnown history entries left = Extends history left.told × Extends left.line.sent (of_place left.line.place entries)

place_of : (limit : ℕ) (history first entries : List Entry) (place : Place) (left : Left) → AreOwn first → IsLegal limit history → IsPart (without_sweeps history) (first ++ entries) → IsPlaceServed limit place left → IsFresh place → IsKnown history entries left
    → IsPlaceOf limit history entries place left
place_of limit history first entries place left own legal kept served fresh known =
    let P : List Entry → Type 0 = λ l. Extends history l in
    let N : ℕ → Type 0 = λ n. 0 < n in
    record {
      served = served;
      within = (visits_within limit 1 history place.gate served.visits served.last legal served.connections (subst P served.told known.0)).1;
      known = known.0;
      publications = place_sends limit place left fresh.0 fresh.1 served;
      line = line_of history first entries left.line own (subst N (sym served.number) fresh.2) kept known.1;
    }

-- ---- new places

pub new_lines_length : (places : ℕ) → length (new_lines places) ≡ places
new_lines_length zero = refl
new_lines_length (suc n) = let h = new_lines_length n in omega (arith, h, length-append (new_lines n) (new_line (suc n) ∷ []))

gates_length : (known : List Entry) (lines : List Line) → length (map (λ line. handed_on known line) lines) ≡ length lines
gates_length known [] = refl
gates_length known (line ∷ lines) = let h = gates_length known lines in omega (arith, h)

pub new_gates_length : (known : List Entry) (places : ℕ) → length (new_gates known places) ≡ places
new_gates_length known places = gates_length known (new_lines places) ∙ new_lines_length places

-- ---- gates that know one list

-- the gates of seats that all know one list
pub gates_known : (known : List Entry) (seats : List (List Entry)) (lines : List Line) → length seats ≡ length lines → AllByRecursion (λ seat. seat ≡ known) seats → gates_of seats lines ≡ map (λ line. handed_on known line) lines
gates_known known [] [] same all = refl
gates_known known [] (line ∷ lines) same all = absurd (omega (arith, same))
gates_known known (seat ∷ seats) [] same all = absurd (omega (arith, same))
gates_known known (seat ∷ seats) (line ∷ lines) same all =
    let G : List Entry → SharedValue = λ k. handed_on k line in
    ap (λ l. G l ∷ gates_of seats lines) all.0 ∙ ap (λ l. G known ∷ l) (gates_known known seats lines (omega (arith, same)) all.1)

-- the first of a list of which each is this one
pub first_is : {A : Type 0} (known x : A) (xs : List A) → slice_get xs 0 ≡ Some x → AllByRecursion (λ y. y ≡ known) xs → x ≡ known
first_is known x [] here all = absurd (cc (here))
first_is known x (y ∷ ys) here all = let same = all.0 in cc (here, same)

-- one more of a map
pub next_of_map : {A B : Type 0} (f : A → B) (done more whole : List B) (new : B) (rest left : List A) (x : A)
    → more ≡ done ++ new ∷ [] → done ++ map f rest ≡ whole → rest ≡ x ∷ left → new ≡ f x → more ++ map f left ≡ whole
next_of_map f done more whole new rest left x pushed so_far first is =
    ap (λ k. k ++ map f left) pushed ∙ (append_assoc done (new ∷ []) (map f left) ∙ (ap (λ y. done ++ y ∷ map f left) is ∙ (ap (λ l. done ++ map f l) (sym first) ∙ so_far)))

-- the first seat that is left goes with the first line that is left
pub next_gate : (done more whole : List SharedValue) (gate : SharedValue) (seats seats_left : List (List Entry)) (lines lines_left : List Line) (seat : List Entry) (line : Line)
    → more ≡ done ++ gate ∷ [] → done ++ gates_of seats lines ≡ whole → seats ≡ seat ∷ seats_left → lines ≡ line ∷ lines_left
    → gate ≡ handed_on seat line → more ++ gates_of seats_left lines_left ≡ whole
next_gate done more whole gate seats seats_left lines lines_left seat line pushed so_far s l is =
    let rest = gates_of seats_left lines_left in
    let first : gates_of seats lines ≡ gate ∷ rest = ap (λ k. gates_of k lines) s ∙ (ap (λ k. gates_of (seat ∷ seats_left) k) l ∙ ap (λ g. g ∷ rest) (sym is)) in
    ap (λ k. k ++ rest) pushed ∙ (append_assoc done (gate ∷ []) rest ∙ (ap (λ k. done ++ k) (sym first) ∙ so_far))

-- no seat or no line is left
pub no_gate : (done whole : List SharedValue) (seats : List (List Entry)) (lines : List Line) → done ++ gates_of seats lines ≡ whole → (length seats ≡ 0) ⊎ (length lines ≡ 0) → done ≡ whole
no_gate done whole [] lines so_far none = sym (append-nil done) ∙ so_far
no_gate done whole (seat ∷ seats) [] so_far none = sym (append-nil done) ∙ so_far
no_gate done whole (seat ∷ seats) (line ∷ lines) so_far none = ⊎_elim (λ t. absurd (omega (arith, t))) (λ t. absurd (omega (arith, t))) none

-- a new gate sent nothing
abbrev IsUnused : Line → Type 0
IsUnused line = (line.sent ++ line.ahead ≡ []) × (0 < line.place)

lines_fresh : (places : ℕ) → AllByRecursion IsUnused (new_lines places)
lines_fresh zero = tt
lines_fresh (suc n) = all_push IsUnused (new_lines n) (new_line (suc n)) (lines_fresh n) (refl, omega arith)

places_fresh : (known : List Entry) (turns : List Connections) (lines : List Line) → AllByRecursion IsUnused lines → AllByRecursion IsFresh (places_of turns (map (λ line. handed_on known line) lines))
places_fresh known [] lines fresh = tt
places_fresh known (connections ∷ turns) [] fresh = tt
places_fresh known (connections ∷ turns) (line ∷ lines) fresh = ((ap (λ (l : List Entry). Some l) fresh.0.0, refl, fresh.0.1), places_fresh known turns lines fresh.1)

-- ---- maps

pub push_map : {A B : Type 0} (f : A → B) (xs : List A) (x : A) (ys more : List B) → more ≡ ys ++ f x ∷ [] → ys ≡ map f xs → more ≡ map f (xs ++ x ∷ [])
push_map f xs x ys more pushed so_far = pushed ∙ (ap (λ l. l ++ f x ∷ []) so_far ∙ sym (map-append f xs (x ∷ [])))

pub all_done : {A : Type 0} (xs rest whole : List A) → xs ++ rest ≡ whole → length rest ≡ 0 → xs ≡ whole
all_done xs [] whole so_far none = sym (append-nil xs) ∙ so_far
all_done xs (x ∷ rest) whole so_far none = absurd (omega (arith, none))

pub map_map : {A B C : Type 0} (f : B → C) (g : A → B) (xs : List A) → map f (map g xs) ≡ map (λ x. f (g x)) xs
map_map f g [] = refl
map_map f g (x ∷ xs) = ap (λ l. f (g x) ∷ l) (map_map f g xs)

-- what holds of each, and what holds of each as it is seen
all_both : {E A B : Type 0} (f : E → A) (P : E → Type 0) (C : A → Type 0) (g : E → B) (Q : B → Type 0) → ((e : E) → P e → C (f e) → Q (g e)) → (es : List E)
    → AllByRecursion P es → AllByRecursion C (map f es) → AllByRecursion Q (map g es)
all_both f P C g Q to [] first second = tt
all_both f P C g Q to (e ∷ es) first second = (to e first.0 second.0, all_both f P C g Q to es first.1 second.1)

-- ---- one end after the other

pub known_more : {A : Type 0} (xs ys : List A) (P : A → Type 0) (i : ℕ) (x : A) → xs ≡ ys → i < length ys → x ≡ get_or xs i x → P x → All P (take i ys) → All P (take (i + 1) ys)
known_more xs ys P i x same there is here all = All-more P ys i x there all (subst P (is ∙ ap (λ l. get_or l i x) same) here)

take_whole : {A : Type 0} (i : ℕ) (ys : List A) → length ys ≤ i → take i ys ≡ ys
take_whole zero [] few = refl
take_whole (suc i) [] few = refl
take_whole zero (y ∷ ys) few = absurd (omega (arith, few))
take_whole (suc i) (y ∷ ys) few = ap (λ l. y ∷ l) (take_whole i ys (omega (arith, few)))

pub known_all : {A : Type 0} (ys : List A) (P : A → Type 0) (i : ℕ) → length ys ≤ i → All P (take i ys) → All P ys
known_all {A} ys P i few all = let Q : List A → Type 0 = λ l. All P l in subst Q (take_whole i ys few) all

-- ---- the run

-- each place has the end of one line, once the turns were served over new gates
pub ends_once : {T E : Type 0} (turns : List T) (ends : List E) (connections : T → Connections) (turn : E → T) (told : E → List Entry) (line : E → Closed) (limit places : ℕ) (first : List Entry) (gates : List SharedValue)
    → gates ≡ new_gates first places → length turns ≡ places → AllZip (IsPlaceServed limit) (places_of (map connections turns) gates) (map (λ e. left_at (connections (turn e)) (told e) (line e)) ends)
    → EachOnce places (map line ends)
ends_once {T} {E} turns ends connections turn told line limit places first gates new turns_count served =
    let h : E → Left = λ e. left_at (connections (turn e)) (told e) (line e) in
    let before = map connections turns in
    let P : List SharedValue → Type 0 = λ l. AllZip (IsPlaceServed limit) (places_of before l) (map h ends) in
    let Q : List Closed → Type 0 = λ l. EachOnce places l in
    subst Q (map_map (λ (end : Left). end.line) h ends) (each_once limit places first before (map h ends) (length-map turns connections ∙ (turns_count ∙ sym (new_lines_length places))) (subst P new served))

-- a run of a store with a turn for each place
pub store_run : {T E : Type 0} (turns : List T) (ends : List E) (connections : T → Connections) (turn : E → T) (told : E → List Entry) (line : E → Closed) (most_held limit places : ℕ) (first : List Entry) (turns_left : List T)
    (gates : List SharedValue) (w : Written) (received : Received) (cause : Cause) (ways : List Told) (version : ℕ) (changes : Option ℕ)
    → AreOwn first → gates ≡ new_gates first places → length turns ≡ places
    → AllZip (IsPlaceServed limit) (places_of (map connections turns) gates) (map (λ e. left_at (connections (turn e)) (told e) (line e)) ends)
    → IsWritten limit places first received.entries (kept_of w) ways → IsLegal limit (kept_of w) → All (λ e. IsPrefix (told e) (kept_of w)) ends
    → AreTakenInOrder received.entries (map line ends) → MatchOption changes (IsUnsettled received.entries (map line ends)) (IsSettled places received.entries (map line ends))
    → AreOfPlaces places received.entries → IsCause places (2 ^ 64 - 1) received cause → (HaveEnded places received.ends → AreTaken received.entries (map line ends)) → version ≡ length w.published → length w.held ≤ most_held → turns_left ≡ map turn ends
    → IsRunTo most_held limit places first (map connections turns) (map connections turns_left) w version changes cause
store_run {T} {E} turns ends connections turn told line most_held limit places first turns_left gates w received cause ways version changes writers new turns_count served written legal known taken settled placed ended all_ended version_is few left_is =
    let history = kept_of w in
    let entries = received.entries in
    let kept = written_part limit places first entries history ways written in
    let h : E → Left = λ e. left_at (connections (turn e)) (told e) (line e) in
    let left = map h ends in
    let after : map connections turns_left ≡ map (λ end. end.connections) left =
    ap (map connections) left_is ∙ (map_map connections turn ends ∙ sym (map_map (λ (end : Left). end.connections) h ends)) in
    let lines_left : map line ends ≡ map (λ end. end.line) left = sym (map_map (λ (end : Left). end.line) h ends) in
    let K : E → Type 0 = λ e. IsPrefix (told e) history in
    let C : Closed → Type 0 = λ e. IsPrefix (of_place e.place entries) e.sent in
    let both : AllByRecursion (IsKnown history entries) left =
    all_both line K C h (IsKnown history entries) (λ e k c. ((k.0, sym k.1), (c.0, sym c.1))) ends (recursion_from_All K ends known) (recursion_from_All C (map line ends) taken) in
    let before = map connections turns in
    let P : List SharedValue → Type 0 = λ l. AllZip (IsPlaceServed limit) (places_of before l) left in
    let gates_count : length gates ≡ places = ap length new ∙ new_gates_length first places in
    let all = places_length before gates (length-map turns connections ∙ (turns_count ∙ sym gates_count)) in
    let each = each_length (IsPlaceServed limit) (places_of before gates) left served in
    let S : List Closed → Type 0 = λ l. MatchOption changes (IsUnsettled entries l) (IsSettled places entries l) in
    let T : List Closed → Type 0 = λ l. IsEndOfRun entries l cause in
    let run : IsStoreRun most_held limit places first before (map connections turns_left) version changes cause = record {
      writer = writer_run most_held limit places version w first entries ways written legal placed version_is few;
      left = left;
      each = each_with (IsPlaceServed limit) (IsPlaceOf limit history entries) IsFresh (IsKnown history entries) (λ place end one fresh k. place_of limit history first entries place end writers legal kept one fresh k)
          (places_of before (new_gates first places)) left (subst P new served) (places_fresh first before (new_lines places) (lines_fresh places)) both;
      count = omega (arith, each, all, gates_count);
      turns = after;
      ended = subst T lines_left (end_of_run places received cause (map line ends) ended all_ended);
      settled = subst S lines_left settled;
    } in
    record { run = run; published = refl; held = refl }
