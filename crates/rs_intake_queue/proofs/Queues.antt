-- Each step keeps the rule of the queue.
use Rattle.std.proofs.Common.{◌≡◌, ◌≢◌, ℕ, zero, suc, ◌+◌, ◌<◌, ◌==◌, ◌⊎◌, Bool, true, false, cond, max, List, [], ◌∷◌, ◌++◌, length, map, set, fold, refl, inl, inr, sym, ap, subst, ◌∙◌, ⊎_elim, append_assoc, length-append, ◌≤◌, arith}
use Rattle.std.proofs.lemmas.List.{append-nil}
use Rattle.std.proofs.lemmas.Grind.{flat_map-append}
use Rattle.std.proofs.lemmas.List.Elements.{filter-append, filter_map-append}
use Rattle.std.specs.List.{AllByRecursion}
use Rattle.std.proofs.lemmas.Bool.Decides.{nat_tests}
use mathlib.Core.Option.{Option, some, none, some-injective, some-ne-none}
use mathlib.Core.List.{IsPrefix}
use lib.ListN.{get_elem?}
use Rattle.crossbeam_channel.specs.Fifo.{Pushes, Pops, Forks, Merges, Learns}
use Rattle.atomic_table.proofs.Lists.{at_set}
use Rattle.rs_store.specs.History.{SerialsRise, last_serial}
use Rattle.rs_store.proofs.Entries.{all_append}
use Rattle.rs_store.proofs.Histories.{serials_rise_more}
use Rattle.rs_message.specs.declared.entry.Entry.{Entry}
use Rattle.rs_intake_queue.specs.declared.rule.PassView.{PassView}
use Rattle.rs_intake_queue.specs.declared.rule.SentFrom.{SentFrom}
use Rattle.rs_intake_queue.specs.declared.job.Job.{Job}
use Rattle.rs_intake_queue.specs.declared.job.Job.TheVariants.{Put, End}
use Rattle.rs_intake_queue.proofs.Parts.{part_front, part_rises, rises_none}
use Rattle.rs_intake_queue.specs.Changes.{AreOf, AreOfLine}
use Rattle.rs_intake_queue.specs.QueueRule.{AreAbove, AreEnds, AreLast, AreWhole, Balances, Closes, ClosesLine, ClosesTaker, Delivers, FitsLine, FitsTaker, HoldsNothingOf, IsAbove, IsOf, IsOutside, IsPlaced, Keeps, Sends, SumsUp, Takes, at_place, end_of, ends_of, entries_in, entries_of, job_more, new_line, of_place, one_line_less, one_line_more, spent, taker}

pub clash : {b : Bool} → b ≡ false → b ≡ true → ⊥
clash p q = cc (p, q)

pub then_is : {A : Type 0} (b : Bool) (x y : A) → b ≡ true → cond b x y ≡ x
then_is true x y is = refl
then_is false x y is = absurd (cc (is))

pub else_is : {A : Type 0} (b : Bool) (x y : A) → b ≡ false → cond b x y ≡ y
else_is true x y is = absurd (cc (is))
else_is false x y is = refl

of_place-append : (place : ℕ) (xs ys : List Entry) → of_place place (xs ++ ys) ≡ of_place place xs ++ of_place place ys
of_place-append place xs ys = filter-append (λ (e : Entry). e.origin.place == place) xs ys

pub of_place-here : (place : ℕ) (e : Entry) → e.origin.place ≡ place → of_place place (e ∷ []) ≡ e ∷ []
of_place-here place e same = let is : (e.origin.place == place) ≡ true = grind (arith, nat_tests) in then_is (e.origin.place == place) (e ∷ []) [] is

-- all entries of a list that are of its place
of_place_all : (place : ℕ) (es : List Entry) → AreOf place es → of_place place es ≡ es
of_place_all place [] of = refl
of_place_all place (e ∷ es) of =
    let same = of.0 in
    let is : (e.origin.place == place) ≡ true = grind (arith, nat_tests) in
    then_is (e.origin.place == place) (e ∷ of_place place es) (of_place place es) is ∙ ap (λ l. e ∷ l) (of_place_all place es of.1)

of_place_none : (place from : ℕ) (es : List Entry) → place ≢ from → AreOf from es → of_place place es ≡ []
of_place_none place from [] other of = refl
of_place_none place from (e ∷ es) other of =
    let same = of.0 in
    let apart : e.origin.place ≢ place = λ is. other (sym is ∙ same) in
    let is : (e.origin.place == place) ≡ false = grind (arith, nat_tests) in
    else_is (e.origin.place == place) (e ∷ of_place place es) (of_place place es) is ∙ of_place_none place from es other of.1

-- the entries of one job more
entries_more : (items : List Job) (x : Job) → entries_of (items ++ x ∷ []) ≡ entries_of items ++ entries_in x
entries_more items x = flat_map-append entries_in items (x ∷ []) ∙ ap (λ l. entries_of items ++ l) (append-nil (entries_in x))

of_place-twice : (place : ℕ) (xs : List Entry) → of_place place (of_place place xs) ≡ of_place place xs
of_place-twice place [] = refl
of_place-twice place (x ∷ xs) = go (x.origin.place == place) refl (of_place-twice place xs)
  where
    go : (b : Bool) → (x.origin.place == place) ≡ b → of_place place (of_place place xs) ≡ of_place place xs → of_place place (cond b (x ∷ of_place place xs) (of_place place xs)) ≡ cond b (x ∷ of_place place xs) (of_place place xs)
    go true is rest = then_is (x.origin.place == place) (x ∷ of_place place (of_place place xs)) (of_place place (of_place place xs)) is ∙ ap (λ l. x ∷ l) rest
    go false is rest = rest

-- the last serial of a place depends on its entries alone
last_serial-of_place : (place : ℕ) (xs : List Entry) → last_serial place (of_place place xs) ≡ last_serial place xs
last_serial-of_place place xs = ap (λ (l : List Entry). fold max 0 (map (λ (e : Entry). e.origin.serial) l)) (of_place-twice place xs)

-- what was sent, once the place sent a job more
abbrev sent_more : (ℕ → List Entry) → List Entry → ℕ → List Entry
sent_more sent es place = sent place ++ of_place place es

whole_more : (line : ℕ → Option ℕ) (sent : ℕ → List Entry) (es : List Entry) (from pass : ℕ) → line from ≡ some pass → ((place : ℕ) → place ≢ from → of_place place es ≡ [])
    → (ks : List SentFrom) → AreWhole line sent ks → AreWhole line (sent_more sent es) ks
whole_more line sent es from pass mine others [] w = tt
whole_more line sent es from pass mine others (k ∷ ks) w = (
  w.0,
  w.1 ∙ (sym (append-nil (sent k.place)) ∙ ap (λ l. sent k.place ++ l) (sym (others k.place (λ same. some-ne-none pass (sym mine ∙ (ap line (sym same) ∙ w.0)))))),
  whole_more line sent es from pass mine others ks w.2,
)

puts_with : (n pass : ℕ) (v : PassView) (x : Job) → v.sends ≡ true → v.takes ≡ false
    → of_place v.from (entries_in x) ≡ entries_in x
    → ((place : ℕ) → place ≢ v.from → of_place place (entries_in x) ≡ [])
    → ((entries : List Entry) → of_place v.from entries ≡ v.entries → SerialsRise entries → SerialsRise (entries ++ entries_in x))
    → Pushes Delivers n pass v x (Sends v x)
puts_with n pass v x sends takes own others rising items views capacity h at =
    let es = entries_in x in
    let writer = h.0 in
    let line = h.1 in
    let sent = h.2 in
    let taken = h.3 in
    let mine = (h.5 pass v at).0 sends in
    let joined : taken ++ entries_of (items ++ x ∷ []) ≡ (taken ++ entries_of items) ++ es = ap (λ l. taken ++ l) (entries_more items x) ∙ sym (append_assoc taken (entries_of items) es) in
    let all : (place : ℕ) → of_place place (taken ++ entries_of (items ++ x ∷ [])) ≡ sent_more sent es place = λ place. ap (of_place place) joined ∙ (of_place-append place (taken ++ entries_of items) es ∙ ap (λ l. l ++ of_place place es) (h.4 place)) in (
      job_more v x,
      (
        writer,
        line,
        sent_more sent es,
        taken,
        all,
        (λ j u e. ⊎_elim
            (λ (t : (j ≡ pass) × (job_more v x ≡ u)).
            let P : PassView → Type 0 = λ u. FitsLine line (sent_more sent es) j u × FitsTaker line (sent_more sent es) writer taken j u in
            subst P t.1 (
              (λ s. (mine.0 ∙ ap some (sym t.0), ap (λ l. l ++ es) mine.1 ∙ ap (λ l. sent v.from ++ l) (sym own))),
              (λ s. absurd (clash takes s)),
            ))
            (λ (t : (j ≢ pass) × (get_elem? views j ≡ some u)).
            let f = h.5 j u t.1 in (
              (λ s. let g = f.0 s in (g.0, g.1 ∙ (sym (append-nil (sent u.from)) ∙ ap (λ l. sent u.from ++ l) (sym (others u.from (λ same. t.0 (some-injective j pass (sym g.0 ∙ (ap line same ∙ mine.0))))))))),
              (λ s. let g = f.1 s in (
                g.0,
                g.1,
                (λ place late. let q = g.2 place late in (q.0, ap (λ l. l ++ of_place place es) q.1 ∙ others place (λ same. some-ne-none pass (sym mine.0 ∙ (ap line (sym same) ∙ q.0))))),
                whole_more line sent es v.from pass mine.0 others u.known g.3,
              )),
            ))
            (at_set views pass j (job_more v x) u e)),
        (let P : List Entry → Type 0 = λ l. SerialsRise l in subst P (sym joined) (rising (taken ++ entries_of items) (h.4 v.from ∙ sym mine.1) h.6)),
      ),
      refl,
    )

-- where the serials of a job are above those of its place, and one above the other, the serials of all rise
rises_all : (from : ℕ) (es known entries : List Entry) → AreOf from es → AreAbove known es → of_place from entries ≡ known → SerialsRise entries → SerialsRise (entries ++ es)
rises_all from [] known entries of above mine rises = let P : List Entry → Type 0 = λ l. SerialsRise l in subst P (sym (append-nil entries)) rises
rises_all from (e ∷ es) known entries of above mine rises =
    let is : last_serial e.origin.place entries ≡ last_serial e.origin.place known = sym (last_serial-of_place e.origin.place entries) ∙ ap (last_serial e.origin.place) (ap (λ p. of_place p entries) of.0 ∙ mine) in
    let high = above.0 in
    let one : SerialsRise (entries ++ e ∷ []) = serials_rise_more entries e rises (omega (arith, is, high)) in
    let more : of_place from (entries ++ e ∷ []) ≡ known ++ e ∷ [] = of_place-append from entries (e ∷ []) ∙ (ap (λ l. l ++ of_place from (e ∷ [])) mine ∙ ap (λ l. known ++ l) (of_place-here from e of.0)) in
    let P : List Entry → Type 0 = λ l. SerialsRise l in
    subst P (append_assoc entries (e ∷ []) es) (rises_all from es (known ++ e ∷ []) (entries ++ e ∷ []) of.1 above.1 more one)

-- a line has sent nothing
pub line_none : (place : ℕ) (sent : List Entry) → sent ≡ [] → AreOfLine place sent
line_none place sent empty =
    let P : List Entry → Type 0 = λ l. AreOfLine place l in
    subst P (sym empty) (record { of_place = tt; rise = rises_none })

-- a line sends one job more
pub line_more : (place : ℕ) (sent es : List Entry) → AreOf place es → AreAbove sent es → AreOfLine place sent → AreOfLine place (sent ++ es)
line_more place sent es of above line = record {
  of_place = all_append (λ (e : Entry). e.origin.place ≡ place) sent es line.of_place of;
  rise = rises_all place es sent sent of above (of_place_all place sent line.of_place) line.rise;
}

puts_delivers : (n pass : ℕ) (v : PassView) (x : Job) → v.sends ≡ true → v.takes ≡ false → IsOf v.from x → IsAbove v.entries x → Pushes Delivers n pass v x (Sends v x)
puts_delivers n pass v (Put es) sends takes of above = puts_with n pass v (Put es) sends takes
    (of_place_all v.from es of)
    (λ place other. of_place_none place v.from es other of)
    (λ entries mine rises. rises_all v.from es v.entries entries of above mine rises)
puts_delivers n pass v (End place) sends takes of above = puts_with n pass v (End place) sends takes
    refl
    (λ place other. refl)
    (λ entries mine rises. let P : List Entry → Type 0 = λ l. SerialsRise l in subst P (sym (append-nil entries)) rises)

-- the same without the Ends
abbrev TakesRising : PassView → Job → PassView → Type 0
TakesRising v job w = (w ≡ job_more v job) × SerialsRise w.entries

takes_delivers : (pass : ℕ) (v : PassView) → v.takes ≡ true → v.sends ≡ false → Pops Delivers pass v (TakesRising v)
takes_delivers pass v gets quiet x items views h at =
    let es = entries_in x in
    let writer = h.0 in
    let line = h.1 in
    let sent = h.2 in
    let taken = h.3 in
    let mine = (h.5 pass v at).1 gets in
    let joined : (taken ++ es) ++ entries_of items ≡ taken ++ entries_of (x ∷ items) = append_assoc taken es (entries_of items) in (
      job_more v x,
      (
        writer,
        line,
        sent,
        taken ++ es,
        (λ place. ap (of_place place) joined ∙ h.4 place),
        (λ j u e. ⊎_elim
            (λ (t : (j ≡ pass) × (job_more v x ≡ u)).
            let P : PassView → Type 0 = λ u. FitsLine line sent j u × FitsTaker line sent writer (taken ++ es) j u in
            subst P t.1 ((λ s. absurd (clash quiet s)), (λ s. (t.0 ∙ mine.0, ap (λ l. l ++ es) mine.1, mine.2, mine.3))))
            (λ (t : (j ≢ pass) × (get_elem? views j ≡ some u)).
            let f = h.5 j u t.1 in (f.0, (λ s. absurd (t.0 ((f.1 s).0 ∙ sym mine.0)))))
            (at_set views pass j (job_more v x) u e)),
        (let P : List Entry → Type 0 = λ l. SerialsRise l in subst P (sym joined) h.6),
      ),
      (
        refl,
        (let P : List Entry → Type 0 = λ l. SerialsRise (l ++ es) in subst P (sym mine.1)
            (part_rises (taken ++ es) ((taken ++ es) ++ entries_of items) (part_front (taken ++ es) (entries_of items)) (let Q : List Entry → Type 0 = λ l. SerialsRise l in subst Q (sym joined) h.6))),
      ),
    )

pub snoc_at : {A : Type 0} (l : List A) (a b : A) (j : ℕ) → get_elem? (l ++ a ∷ []) j ≡ some b → (get_elem? l j ≡ some b) ⊎ ((j ≡ length l) × (a ≡ b))
snoc_at [] a b zero e = inr (refl, some-injective a b e)
snoc_at [] a b (suc j) e = absurd (some-ne-none b (sym e))
snoc_at (x ∷ xs) a b zero e = inl e
snoc_at (x ∷ xs) a b (suc j) e = ⊎_elim (λ t. inl t) (λ t. inr (ap suc t.0, t.1)) (snoc_at xs a b j e)

-- which pass a place has, where one place changed
abbrev line_at : (ℕ → Option ℕ) → ℕ → Option ℕ → ℕ → Option ℕ
line_at line place pass p = cond (p == place) pass (line p)

line_here : (line : ℕ → Option ℕ) (place : ℕ) (pass : Option ℕ) → line_at line place pass place ≡ pass
line_here line place pass = let same : (place == place) ≡ true = grind (arith, nat_tests) in then_is (place == place) pass (line place) same

line_other : (line : ℕ → Option ℕ) (place : ℕ) (pass : Option ℕ) (p : ℕ) → p ≢ place → line_at line place pass p ≡ line p
line_other line place pass p apart = let other : (p == place) ≡ false = grind (arith, nat_tests) in else_is (p == place) pass (line p) other

line_gone : (line : ℕ → Option ℕ) (place p : ℕ) → line p ≡ none → line_at line place none p ≡ none
line_gone line place p is = go (p == place)
  where
    go : (b : Bool) → cond b none (line p) ≡ none
    go true = refl
    go false = is

within_more : (made place : ℕ) → IsOutside (made + 1) place → IsOutside made place
within_more made place out = ⊎_elim (λ (t : place ≡ 0). inl t) (λ (t : made + 1 < place). inr (omega arith)) out

not_next : (made place : ℕ) → IsOutside (made + 1) place → place ≢ made + 1
not_next made place out same = ⊎_elim (λ (t : place ≡ 0). omega arith) (λ (t : made + 1 < place). omega arith) out

cuts_delivers : (pass : ℕ) (v : PassView) → v.takes ≡ true → v.sends ≡ false → v.known ≡ [] → Forks Delivers pass v (one_line_more v) (new_line v)
cuts_delivers pass v gets quiet none_known items views h at =
    let line = h.1 in
    let sent = h.2 in
    let taken = h.3 in
    let mine = (h.5 pass v at).1 gets in
    let n = length (set views pass (one_line_more v)) in
    let next = v.made + 1 in
    let line' = line_at line next (some n) in
    let free = mine.2 next (inr (omega arith)) in (
      h.0,
      line',
      sent,
      taken,
      h.4,
      (λ j u e. let P : PassView → Type 0 = λ u. FitsLine line' sent j u × FitsTaker line' sent h.0 taken j u in ⊎_elim
          (λ (t : get_elem? (set views pass (one_line_more v)) j ≡ some u). ⊎_elim
          (λ (t : (j ≡ pass) × (one_line_more v ≡ u)). subst P t.1 (
            (λ s. absurd (clash quiet s)),
            (λ s. (
              t.0 ∙ mine.0,
              mine.1,
              (λ place out. let q = mine.2 place (within_more v.made place out) in (line_other line next (some n) place (not_next v.made place out) ∙ q.0, q.1)),
              (let Q : List SentFrom → Type 0 = λ ks. AreWhole line' sent ks in subst Q (sym none_known) tt),
            )),
          ))
          (λ (t : (j ≢ pass) × (get_elem? views j ≡ some u)). let f = h.5 j u t.1 in (
            (λ s. let g = f.0 s in (line_other line next (some n) u.from (λ same. some-ne-none j (sym g.0 ∙ (ap line same ∙ free.0))) ∙ g.0, g.1)),
            (λ s. absurd (t.0 ((f.1 s).0 ∙ sym mine.0))),
          ))
          (at_set views pass j (one_line_more v) u t))
          (λ (t : (j ≡ n) × (new_line v ≡ u)). subst P t.1 (
            (λ s. (line_here line next (some n) ∙ ap some (sym t.0), sym free.1)),
            (λ s. absurd (clash refl s)),
          ))
          (snoc_at (set views pass (one_line_more v)) (new_line v) u j e)),
      h.6,
    )

whole_gone : (line : ℕ → Option ℕ) (sent : ℕ → List Entry) (place : ℕ) (ks : List SentFrom) → AreWhole line sent ks → AreWhole (line_at line place none) sent ks
whole_gone line sent place [] w = tt
whole_gone line sent place (k ∷ ks) w = (line_gone line place k.place w.0, w.1, whole_gone line sent place ks w.2)

merges_delivers : (pass : ℕ) (v : PassView) (other : ℕ) (w : PassView) → v.takes ≡ true → v.sends ≡ false → w.sends ≡ true → Merges Delivers pass v other w (one_line_less v w) spent
merges_delivers pass v other w gets quiet sends items views h at apart at' =
    let line = h.1 in
    let sent = h.2 in
    let taken = h.3 in
    let both = one_line_less v w in
    let mine = (h.5 pass v at).1 gets in
    let there : get_elem? views other ≡ some w = ⊎_elim
    (λ (t : (other ≡ pass) × (both ≡ w)). absurd (apart t.0))
    (λ (t : (other ≢ pass) × (get_elem? views other ≡ some w)). t.1)
    (at_set views pass other both w at') in
    let theirs = (h.5 other w there).0 sends in
    let line' = line_at line w.from none in (
      h.0,
      line',
      sent,
      taken,
      h.4,
      (λ j u e. let P : PassView → Type 0 = λ u. FitsLine line' sent j u × FitsTaker line' sent h.0 taken j u in ⊎_elim
          (λ (t : (j ≡ other) × (spent ≡ u)). subst P t.1 ((λ s. absurd (clash refl s)), (λ s. absurd (clash refl s))))
          (λ (o : (j ≢ other) × (get_elem? (set views pass both) j ≡ some u)). ⊎_elim
          (λ (t : (j ≡ pass) × (both ≡ u)). subst P t.1 (
            (λ s. absurd (clash quiet s)),
            (λ s. (
              t.0 ∙ mine.0,
              mine.1,
              (λ place out. let q = mine.2 place out in (line_gone line w.from place q.0, q.1)),
              (line_here line w.from none, theirs.1, whole_gone line sent w.from v.known mine.3),
            )),
          ))
          (λ (t : (j ≢ pass) × (get_elem? views j ≡ some u)). let f = h.5 j u t.1 in (
            (λ s. let g = f.0 s in (line_other line w.from none u.from (λ same. o.0 (some-injective j other (sym g.0 ∙ (ap line same ∙ theirs.0)))) ∙ g.0, g.1)),
            (λ s. absurd (t.0 ((f.1 s).0 ∙ sym mine.0))),
          ))
          (at_set views pass j both u o.1))
          (at_set (set views pass both) other j spent u e)),
      h.6,
    )

sums_up : (line : ℕ → Option ℕ) (sent all : ℕ → List Entry) → ((place : ℕ) → all place ≡ sent place) → (ks : List SentFrom) → AreWhole line sent ks → SumsUp all ks
sums_up line sent all is [] w = tt
sums_up line sent all is (k ∷ ks) w = (w.1 ∙ sym (is k.place), sums_up line sent all is ks w.2)

-- what is taken and what the queue holds make up what the lines sent
abbrev AddsUp : PassView → List Job → Type 0
AddsUp v items =
    ((place : ℕ) → IsOutside v.made place → of_place place (v.entries ++ entries_of items) ≡ [])
    × SumsUp (λ place. of_place place (v.entries ++ entries_of items)) v.known

learns_delivers : (pass : ℕ) (v : PassView) → v.takes ≡ true → Learns Delivers pass v (AddsUp v)
learns_delivers pass v gets items views h at =
    let mine = (h.5 pass v at).1 gets in
    let all : (place : ℕ) → of_place place (v.entries ++ entries_of items) ≡ h.2 place = λ place. ap (λ l. of_place place (l ++ entries_of items)) mine.1 ∙ h.4 place in (
      (λ place out. all place ∙ (mine.2 place out).1),
      sums_up h.1 h.2 (λ place. of_place place (v.entries ++ entries_of items)) all v.known mine.3,
    )

alone : (j : ℕ) (u : PassView) → get_elem? (taker ∷ []) j ≡ some u → (0 ≡ j) × (taker ≡ u)
alone zero u e = (refl, some-injective taker u e)
alone (suc j) u e = absurd (some-ne-none u (sym e))

-- the empty queue before its lines are made
starts_delivers : Delivers [] (taker ∷ [])
starts_delivers = (
  0,
  (λ place. none),
  (λ place. []),
  [],
  (λ place. refl),
  (λ j u e. let t = alone j u e in let P : PassView → Type 0 = λ u. FitsLine (λ place. none) (λ place. []) j u × FitsTaker (λ place. none) (λ place. []) 0 [] j u in subst P t.1 ((λ s. absurd (clash refl s)), (λ s. (sym t.0, refl, (λ place out. (refl, refl)), tt)))),
  rises_none,
)

-- what was taken of a place is a prefix of what was sent from there
pub in_order : (items : List Job) (views : List PassView) (i j : ℕ) (writer line : PassView) → Delivers items views
    → get_elem? views i ≡ some writer → writer.takes ≡ true → get_elem? views j ≡ some line → line.sends ≡ true
    → IsPrefix (of_place line.from writer.entries) line.entries
in_order items views i j writer line h at_writer takes at_line sends =
    let place = line.from in
    let rest = of_place place (entries_of items) in
    let taken = ((h.5 i writer at_writer).1 takes).1 in
    let sent = ((h.5 j line at_line).0 sends).1 in
    (rest, ap (λ l. of_place place l ++ rest) taken ∙ (sym (of_place-append place h.3 (entries_of items)) ∙ (h.4 place ∙ sym sent)))

-- ---- the Ends

at_place-append : (place : ℕ) (xs ys : List ℕ) → at_place place (xs ++ ys) ≡ at_place place xs ++ at_place place ys
at_place-append place xs ys = filter-append (λ (p : ℕ). p == place) xs ys

at_place-here : (place : ℕ) → at_place place (place ∷ []) ≡ place ∷ []
at_place-here place = let is : (place == place) ≡ true = grind (arith, nat_tests) in then_is (place == place) (place ∷ []) [] is

at_place-other : (place q : ℕ) → q ≢ place → at_place place (q ∷ []) ≡ []
at_place-other place q other = let is : (q == place) ≡ false = grind (arith, nat_tests) in else_is (q == place) (q ∷ []) [] is

pub at_place-head : (q : ℕ) (xs : List ℕ) → at_place q (q ∷ xs) ≡ [] → ⊥
at_place-head q xs e = let is : (q == q) ≡ true = grind (arith, nat_tests) in go (q == q) is e
  where
    go : (b : Bool) → b ≡ true → cond b (q ∷ at_place q xs) (at_place q xs) ≡ [] → ⊥
    go true is e = cc (e)
    go false is e = cc (is)

pub at_place-tail : (place q : ℕ) (xs : List ℕ) → at_place place (q ∷ xs) ≡ [] → at_place place xs ≡ []
at_place-tail place q xs e = go (q == place) e
  where
    go : (b : Bool) → cond b (q ∷ at_place place xs) (at_place place xs) ≡ [] → at_place place xs ≡ []
    go true e = absurd (cc (e))
    go false e = e

pub of_place-head : (x : Entry) (xs : List Entry) → of_place x.origin.place (x ∷ xs) ≡ [] → ⊥
of_place-head x xs e = let is : (x.origin.place == x.origin.place) ≡ true = grind (arith, nat_tests) in go (x.origin.place == x.origin.place) is e
  where
    go : (b : Bool) → b ≡ true → cond b (x ∷ of_place x.origin.place xs) (of_place x.origin.place xs) ≡ [] → ⊥
    go true is e = cc (e)
    go false is e = cc (is)

same_or_not : (a b : ℕ) → (a ≡ b) ⊎ (a ≢ b)
same_or_not a b = go (a == b) refl
  where
    go : (t : Bool) → (a == b) ≡ t → (a ≡ b) ⊎ (a ≢ b)
    go true is = inl (let e : a ≡ b = grind (arith, nat_tests, is) in e)
    go false is = inr (λ same. grind (arith, nat_tests, is, same))

none_left : {A : Type 0} (xs ys : List A) → xs ++ ys ≡ [] → xs ≡ []
none_left [] ys e = refl
none_left (x ∷ xs) ys e = absurd (cc (e))

pub none_right : {A : Type 0} (xs ys : List A) → xs ++ ys ≡ [] → ys ≡ []
none_right [] ys e = e
none_right (x ∷ xs) ys e = absurd (cc (e))

ends_here : (x : Job) (from : ℕ) → IsOf from x → at_place from (ends_of (x ∷ [])) ≡ ends_of (x ∷ [])
ends_here (Put es) from of = refl
ends_here (End q) from of = ap (λ p. at_place p (q ∷ [])) (sym of) ∙ at_place-here q

ends_other : (x : Job) (from place : ℕ) → IsOf from x → place ≢ from → at_place place (ends_of (x ∷ [])) ≡ []
ends_other (Put es) from place of other = refl
ends_other (End q) from place of other = at_place-other place q (λ same. other (sym same ∙ of))

one_end : (x : Job) → length (ends_of (x ∷ [])) ≤ 1
one_end (Put es) = omega arith
one_end (End q) = omega arith

entries_other : (x : Job) (from place : ℕ) → IsOf from x → place ≢ from → of_place place (entries_in x) ≡ []
entries_other (Put es) from place of other = of_place_none place from es other of
entries_other (End q) from place of other = refl

-- another place's job behind the queue
behind_other : (x : Job) (from : ℕ) (items : List Job) (place : ℕ) → IsOf from x → place ≢ from → of_place place (entries_of items) ≡ [] → of_place place (entries_of (items ++ x ∷ [])) ≡ []
behind_other x from items place of other nothing =
    ap (of_place place) (entries_more items x) ∙ (of_place-append place (entries_of items) (entries_in x) ∙ (ap (λ l. l ++ of_place place (entries_in x)) nothing ∙ entries_other x from place of other))

last_one : (x : Job) → AreLast (x ∷ [])
last_one (Put es) = tt
last_one (End q) = (refl, tt)

-- a job whose place has no End in the queue comes behind it
last_more : (x : Job) (from : ℕ) (items : List Job) → IsOf from x → at_place from (ends_of items) ≡ [] → AreLast items → AreLast (items ++ x ∷ [])
last_more x from [] of nothing last = last_one x
last_more x from (Put es ∷ items) of nothing last = last_more x from items of nothing last
last_more x from (End q ∷ items) of nothing last = (
  behind_other x from items q of (λ same. at_place-head q (ends_of items) (ap (λ p. at_place p (q ∷ ends_of items)) same ∙ nothing)) last.0,
  last_more x from items of (at_place-tail from q (ends_of items) nothing) last.1,
)

last_less : (x : Job) (items : List Job) → AreLast (x ∷ items) → AreLast items
last_less (Put es) items last = last
last_less (End q) items last = last.1

closes_more : (pass : ℕ) (v : PassView) (x : Job) (items : List Job) (views : List PassView)
    → v.sends ≡ true → v.takes ≡ false → IsOf v.from x → v.ends ≡ [] → get_elem? views pass ≡ some v
    → ((j : ℕ) (u : PassView) → j ≢ pass → get_elem? views j ≡ some u → (u.sends ≡ true → u.from ≢ v.from) × (u.takes ≡ true → ¬ IsOutside u.made v.from))
    → Closes items views → Closes (items ++ x ∷ []) (set views pass (job_more v x))
closes_more pass v x items views sends takes from fresh at others c =
    let es = ends_of (x ∷ []) in
    let ended = c.0 in
    let all = ended ++ ends_of items in
    let all' = ended ++ ends_of (items ++ x ∷ []) in
    let joined : all' ≡ all ++ es = ap (λ l. ended ++ l) (filter_map-append end_of items (x ∷ [])) ∙ sym (append_assoc ended (ends_of items) es) in
    let more : (place : ℕ) → at_place place all' ≡ at_place place all ++ at_place place es = λ place. ap (at_place place) joined ∙ at_place-append place all es in
    let none : at_place v.from all ≡ [] = sym ((c.2 pass v at).0 sends) ∙ fresh in
    let both : at_place v.from ended ++ at_place v.from (ends_of items) ≡ [] = sym (at_place-append v.from ended (ends_of items)) ∙ none in
    let none_ended : at_place v.from ended ≡ [] = none_left (at_place v.from ended) (at_place v.from (ends_of items)) both in
    let none_there : at_place v.from (ends_of items) ≡ [] = none_right (at_place v.from ended) (at_place v.from (ends_of items)) both in
    let own : at_place v.from es ≡ es = ends_here x v.from from in
    let here : at_place v.from all' ≡ es = more v.from ∙ (ap (λ l. l ++ at_place v.from es) none ∙ own) in
    let apart : (place : ℕ) → place ≢ v.from → at_place place all' ≡ at_place place all = λ place other. more place ∙ (ap (λ l. at_place place all ++ l) (ends_other x v.from place from other) ∙ append-nil (at_place place all)) in (
      ended,
      (λ place. ⊎_elim
          (λ (t : place ≡ v.from). let n : length (at_place place all') ≡ length es = ap length (ap (λ p. at_place p all') t ∙ here) in let one = one_end x in omega (arith, n, one))
          (λ (t : place ≢ v.from). let n : length (at_place place all') ≡ length (at_place place all) = ap length (apart place t) in let few = c.1 place in omega (arith, n, few))
          (same_or_not place v.from)),
      (λ j u e. ⊎_elim
          (λ (t : (j ≡ pass) × (job_more v x ≡ u)).
          let P : PassView → Type 0 = λ u. ClosesLine all' u × ClosesTaker ended all' u in
          subst P t.1 ((λ s. ap (λ l. l ++ es) fresh ∙ sym here), (λ s. absurd (clash takes s))))
          (λ (t : (j ≢ pass) × (get_elem? views j ≡ some u)).
          let f = c.2 j u t.1 in
          let o = others j u t.0 t.1 in (
            (λ s. f.0 s ∙ sym (apart u.from (o.0 s))),
            (λ s. let g = f.1 s in (g.0, (λ place out. apart place (λ same. o.1 s (let O : ℕ → Type 0 = λ p. IsOutside u.made p in subst O same out)) ∙ g.1 place out))),
          ))
          (at_set views pass j (job_more v x) u e)),
      last_more x v.from items from none_there c.3,
      (λ place. ⊎_elim
          (λ (t : at_place place ended ≡ []). inl t)
          (λ (t : of_place place (entries_of items) ≡ []). ⊎_elim
          (λ (same : place ≡ v.from). inl (ap (λ p. at_place p ended) same ∙ none_ended))
          (λ (other : place ≢ v.from). inr (behind_other x v.from items place from other t))
          (same_or_not place v.from))
          (c.4 place)),
    )

pub puts : (n pass : ℕ) (v : PassView) (x : Job) → v.sends ≡ true → v.takes ≡ false → IsOf v.from x → IsAbove v.entries x → v.ends ≡ [] → Pushes Keeps n pass v x (Sends v x)
puts n pass v x sends takes from above fresh items views capacity h at =
    let dl = h.0 in
    let d = puts_delivers n pass v x sends takes from above items views capacity dl at in
    let D : PassView → Type 0 = λ w. Delivers (items ++ x ∷ []) (set views pass w) in
    let mine = (dl.5 pass v at).0 sends in (
      job_more v x,
      (
        subst D d.2 d.1,
        closes_more pass v x items views sends takes from fresh at
            (λ j u apart there. let f = dl.5 j u there in (
              (λ s same. apart (some-injective j pass (sym (f.0 s).0 ∙ (ap dl.1 same ∙ mine.0)))),
              (λ s out. some-ne-none pass (sym mine.0 ∙ ((f.1 s).2 v.from out).0)),
            ))
            h.1,
      ),
      refl,
    )

ends_joined : (ended : List ℕ) (x : Job) (items : List Job) → (ended ++ ends_of (x ∷ [])) ++ ends_of items ≡ ended ++ ends_of (x ∷ items)
ends_joined ended x items = append_assoc ended (ends_of (x ∷ [])) (ends_of items) ∙ ap (λ l. ended ++ l) (sym (filter_map-append end_of (x ∷ []) items))

behind_taken : (x : Job) (items : List Job) (ended : List ℕ) (place : ℕ) → AreLast (x ∷ items) → at_place place ended ≡ [] → (at_place place (ended ++ ends_of (x ∷ [])) ≡ []) ⊎ (of_place place (entries_of items) ≡ [])
behind_taken (Put es) items ended place last nothing = inl (ap (at_place place) (append-nil ended) ∙ nothing)
behind_taken (End q) items ended place last nothing = ⊎_elim
    (λ (same : place ≡ q). inr (ap (λ p. of_place p (entries_of items)) same ∙ last.0))
    (λ (other : place ≢ q). inl (at_place-append place ended (q ∷ []) ∙ (ap (λ l. l ++ at_place place (q ∷ [])) nothing ∙ at_place-other place q (λ same. other (sym same)))))
    (same_or_not place q)

behind_less : (x : Job) (items : List Job) (place : ℕ) → of_place place (entries_of (x ∷ items)) ≡ [] → of_place place (entries_of items) ≡ []
behind_less x items place nothing = none_right (of_place place (entries_in x)) (of_place place (entries_of items)) (sym (of_place-append place (entries_in x) (entries_of items)) ∙ nothing)

closes_less : (pass : ℕ) (v : PassView) (x : Job) (items : List Job) (views : List PassView) → v.takes ≡ true → v.sends ≡ false → get_elem? views pass ≡ some v
    → ((j : ℕ) (u : PassView) → j ≢ pass → get_elem? views j ≡ some u → u.takes ≡ true → ⊥)
    → Closes (x ∷ items) views → Closes items (set views pass (job_more v x))
closes_less pass v x items views gets quiet at only c =
    let es = ends_of (x ∷ []) in
    let ended = c.0 in
    let all = (ended ++ es) ++ ends_of items in
    let joined : all ≡ ended ++ ends_of (x ∷ items) = ends_joined ended x items in
    let mine = (c.2 pass v at).1 gets in (
      ended ++ es,
      (λ place. let P : List ℕ → Type 0 = λ l. length (at_place place l) ≤ 1 in subst P (sym joined) (c.1 place)),
      (λ j u e. ⊎_elim
          (λ (t : (j ≡ pass) × (job_more v x ≡ u)).
          let P : PassView → Type 0 = λ u. ClosesLine all u × ClosesTaker (ended ++ es) all u in
          subst P t.1 ((λ s. absurd (clash quiet s)), (λ s. (ap (λ l. l ++ es) mine.0, (λ place out. ap (at_place place) joined ∙ mine.1 place out)))))
          (λ (t : (j ≢ pass) × (get_elem? views j ≡ some u)).
          let f = c.2 j u t.1 in ((λ s. f.0 s ∙ ap (at_place u.from) (sym joined)), (λ s. absurd (only j u t.0 t.1 s))))
          (at_set views pass j (job_more v x) u e)),
      last_less x items c.3,
      (λ place. ⊎_elim
          (λ (t : at_place place ended ≡ []). behind_taken x items ended place c.3 t)
          (λ (t : of_place place (entries_of (x ∷ items)) ≡ []). inr (behind_less x items place t))
          (c.4 place)),
    )

ends_front : (made : ℕ) (front rest : List ℕ) → ((place : ℕ) → length (at_place place (front ++ rest)) ≤ 1) → ((place : ℕ) → IsOutside made place → at_place place (front ++ rest) ≡ []) → AreEnds made front
ends_front made front rest few outside place =
    let is = at_place-append place front rest in
    let sum = length-append (at_place place front) (at_place place rest) in
    let n : length (at_place place (front ++ rest)) ≡ length (at_place place front ++ at_place place rest) = ap length is in
    let f = few place in (
      omega (arith, sum, n, f),
      (λ out. none_left (at_place place front) (at_place place rest) (sym is ∙ outside place out)),
    )

-- no entry among those of places that have a line is of another place
none_outside : (made : ℕ) (before es rest : List Entry) → ((place : ℕ) → IsOutside made place → of_place place (before ++ (es ++ rest)) ≡ []) → AllByRecursion (λ (e : Entry). ¬ IsOutside made e.origin.place) es
none_outside made before [] rest nothing = tt
none_outside made before (e ∷ es) rest nothing =
    let place = e.origin.place in (
      (λ out. of_place-head e (es ++ rest) (none_right (of_place place before) (of_place place (e ∷ (es ++ rest))) (sym (of_place-append place before (e ∷ (es ++ rest))) ∙ nothing place out))),
      none_outside made (before ++ e ∷ []) es rest (λ place out. ap (of_place place) (append_assoc before (e ∷ []) (es ++ rest)) ∙ nothing place out),
    )

-- the oldest job is of a place that has a line
placed : (pass : ℕ) (v : PassView) (x : Job) (items : List Job) (views : List PassView) → v.takes ≡ true → get_elem? views pass ≡ some v → Delivers (x ∷ items) views → Closes (x ∷ items) views → IsPlaced v.made x
placed pass v (Put es) items views gets at d c = none_outside v.made d.3 es (entries_of items) (λ place out. d.4 place ∙ (((d.5 pass v at).1 gets).2 place out).1)
placed pass v (End q) items views gets at d c = λ out.
    let none : at_place q (c.0 ++ ends_of (End q ∷ items)) ≡ [] = ((c.2 pass v at).1 gets).1 q out in
    at_place-head q (ends_of items) (none_right (at_place q c.0) (at_place q (ends_of (End q ∷ items))) (sym (at_place-append q c.0 (ends_of (End q ∷ items))) ∙ none))

pub takes : (pass : ℕ) (v : PassView) → v.takes ≡ true → v.sends ≡ false → Pops Keeps pass v (Takes v)
takes pass v gets quiet x items views h at =
    let es = ends_of (x ∷ []) in
    let dl = h.0 in
    let cl = h.1 in
    let d = takes_delivers pass v gets quiet x items views dl at in
    let D : PassView → Type 0 = λ w. Delivers items (set views pass w) in
    let S : PassView → Type 0 = λ w. SerialsRise w.entries in
    let E : List ℕ → Type 0 = λ l. AreEnds v.made (l ++ es) in
    let writer = ((dl.5 pass v at).1 gets).0 in
    let mine = (cl.2 pass v at).1 gets in
    let joined = ends_joined cl.0 x items in (
      job_more v x,
      (
        subst D d.2.0 d.1,
        closes_less pass v x items views gets quiet at (λ j u apart there s. apart (((dl.5 j u there).1 s).0 ∙ sym writer)) cl,
      ),
      (
        refl,
        subst S d.2.0 d.2.1,
        subst E (sym mine.0) (ends_front v.made (cl.0 ++ es) (ends_of items)
            (λ place. let P : List ℕ → Type 0 = λ l. length (at_place place l) ≤ 1 in subst P (sym joined) (cl.1 place))
            (λ place out. ap (at_place place) joined ∙ mine.1 place out)),
        placed pass v x items views gets at dl cl,
      ),
    )

pub cuts : (pass : ℕ) (v : PassView) → v.takes ≡ true → v.sends ≡ false → v.known ≡ [] → Forks Keeps pass v (one_line_more v) (new_line v)
cuts pass v gets quiet none_known items views h at =
    let c = h.1 in
    let all = c.0 ++ ends_of items in
    let mine = (c.2 pass v at).1 gets in (
      cuts_delivers pass v gets quiet none_known items views h.0 at,
      (
        c.0,
        c.1,
        (λ j u e. let P : PassView → Type 0 = λ u. ClosesLine all u × ClosesTaker c.0 all u in ⊎_elim
            (λ (t : get_elem? (set views pass (one_line_more v)) j ≡ some u). ⊎_elim
            (λ (t : (j ≡ pass) × (one_line_more v ≡ u)). subst P t.1 ((λ s. absurd (clash quiet s)), (λ s. (mine.0, (λ place out. mine.1 place (within_more v.made place out))))))
            (λ (t : (j ≢ pass) × (get_elem? views j ≡ some u)). c.2 j u t.1)
            (at_set views pass j (one_line_more v) u t))
            (λ (t : (j ≡ length (set views pass (one_line_more v))) × (new_line v ≡ u)). subst P t.1 ((λ s. sym (mine.1 (v.made + 1) (inr (omega arith)))), (λ s. absurd (clash refl s))))
            (snoc_at (set views pass (one_line_more v)) (new_line v) u j e)),
        c.3,
        c.4,
      ),
    )

pub merges : (pass : ℕ) (v : PassView) (other : ℕ) (w : PassView) → v.takes ≡ true → v.sends ≡ false → w.sends ≡ true → Merges Keeps pass v other w (one_line_less v w) spent
merges pass v other w gets quiet sends items views h at apart at' =
    let c = h.1 in
    let all = c.0 ++ ends_of items in
    let both = one_line_less v w in
    let mine = (c.2 pass v at).1 gets in (
      merges_delivers pass v other w gets quiet sends items views h.0 at apart at',
      (
        c.0,
        c.1,
        (λ j u e. let P : PassView → Type 0 = λ u. ClosesLine all u × ClosesTaker c.0 all u in ⊎_elim
            (λ (t : (j ≡ other) × (spent ≡ u)). subst P t.1 ((λ s. absurd (clash refl s)), (λ s. absurd (clash refl s))))
            (λ (o : (j ≢ other) × (get_elem? (set views pass both) j ≡ some u)). ⊎_elim
            (λ (t : (j ≡ pass) × (both ≡ u)). subst P t.1 ((λ s. absurd (clash quiet s)), (λ s. mine)))
            (λ (t : (j ≢ pass) × (get_elem? views j ≡ some u)). c.2 j u t.1)
            (at_set views pass j both u o.1))
            (at_set (set views pass both) other j spent u e)),
        c.3,
        c.4,
      ),
    )

pub learns : (pass : ℕ) (v : PassView) → v.takes ≡ true → Learns Keeps pass v (Balances v)
learns pass v gets items views h at =
    let adds = learns_delivers pass v gets items views h.0 at in
    let E : List ℕ → Type 0 = λ ended. HoldsNothingOf ended items in
    let ended : v.ends ≡ h.1.0 = ((h.1.2 pass v at).1 gets).0 in
    (adds.0, adds.1, subst E (sym ended) h.1.4)

pub starts : Keeps [] (taker ∷ [])
starts = (
  starts_delivers,
  (
    [],
    (λ place. omega arith),
    (λ j u e. let t = alone j u e in let P : PassView → Type 0 = λ u. ClosesLine [] u × ClosesTaker [] [] u in subst P t.1 ((λ s. absurd (clash refl s)), (λ s. (refl, (λ place out. refl))))),
    tt,
    (λ place. inl refl),
  ),
)

-- once the writer took the End of a place, it took all that was sent from there
pub end_is_last : (items : List Job) (views : List PassView) (i j : ℕ) (writer line : PassView) → Keeps items views
    → get_elem? views i ≡ some writer → writer.takes ≡ true → get_elem? views j ≡ some line → line.sends ≡ true
    → length (at_place line.from writer.ends) ≡ 1 → of_place line.from writer.entries ≡ line.entries
end_is_last items views i j writer line h at_writer takes at_line sends one =
    let dl = h.0 in
    let cl = h.1 in
    let place = line.from in
    let taken = ((dl.5 i writer at_writer).1 takes).1 in
    let sent = ((dl.5 j line at_line).0 sends).1 in
    let ended = ((cl.2 i writer at_writer).1 takes).0 in
    ⊎_elim
    (λ (t : at_place place cl.0 ≡ []). absurd (let n : length (at_place place writer.ends) ≡ 0 = ap length (ap (at_place place) ended ∙ t) in omega (arith, n, one)))
    (λ (t : of_place place (entries_of items) ≡ []).
    ap (of_place place) taken ∙ (sym (append-nil (of_place place dl.3)) ∙ (ap (λ l. of_place place dl.3 ++ l) (sym t) ∙ (sym (of_place-append place dl.3 (entries_of items)) ∙ (dl.4 place ∙ sym sent)))))
    (cl.4 place)
