-- What a Sweep leaves of a branch, child by child.
use Rattle.std.proofs.Common.{◌≡◌, ◌≢◌, ℕ, zero, suc, ◌+◌, ◌-◌, ◌^◌, ◌<◌, ◌≤◌, ◌==◌, Bool, true, false, cond, if◌then◌else◌, List, [], ◌∷◌, ◌++◌, length, get_or, take, drop, refl, sym, ap, subst, ◌∙◌, arith, append_assoc, Option, Some, None, is_some}
use Rattle.std.proofs.lemmas.List.{append-nil, take_more}
use Rattle.std.proofs.lemmas.Bool.Decides.{nat_tests}
use Rattle.std.proofs.lemmas.List.Elements.{filter-append}
use Rattle.std.specs.List.{filter}
use Rattle.rs_message.specs.declared.found.Found.{Found}
use Rattle.rs_tree_bucket.specs.Chains.{under_all}
use Rattle.rs_tree_bucket.specs.Expiring.{earliest}
use Rattle.rs_tree_bucket.specs.Spots.{IsFull, is_nothing, under}
use Rattle.rs_tree_branch.specs.Spots.{own, pairs}
use Rattle.rs_tree_bucket.specs.Sweeping.{spot_stays}
use Rattle.rs_tree_branch.proofs.Ends.{swept_chain, pairs_end}
use Rattle.rs_tree_branch.specs.Chunks.{IsBefore, IsChunk, IsFrom, IsLeft, IsUpTo, parts}
use Rattle.rs_tree_branch.specs.Rests.{IsRestOf}
use Rattle.rs_tree_branch.specs.Values.{ChildValue}
use Rattle.rs_tree_branch.proofs.Dividing.{chunk_take, full_parts, up_to_all, up_to_front, up_to_rear}
use Rattle.rs_tree_branch.proofs.Stems.{full_under}
use Rattle.rs_message.specs.Messages.{is_expired}
use Rattle.rs_store.specs.Contents.{is_gone}
use Rattle.rs_store.proofs.Expiring.{calm_until}
use Rattle.rs_tree_branch.proofs.Growing.{chunk_at, from_at}
use Rattle.rs_tree_bucket.proofs.Spots.{Spots}

-- ---- a chunk that grows at its end

before_one : (w : Spots) (cs : List ChildValue) (c : ChildValue) → IsUpTo c.level w → IsBefore w cs → IsBefore w (cs ++ c ∷ [])
before_one w [] c u b = u
before_one w (d ∷ cs) c u b = b

pub chunk_push : (cs : List ChildValue) (c : ChildValue) → IsChunk cs → IsUpTo c.level (parts cs) → IsFull c.spots → IsFrom c.level c.spots → IsChunk (cs ++ c ∷ [])
chunk_push [] c r u full from = (full, from, tt, tt)
chunk_push (d ∷ cs) c r u full from =
    (r.0, r.1, before_one d.spots cs c (up_to_front c.level d.spots (parts cs) u) r.2, chunk_push cs c r.3 (up_to_rear c.level d.spots (parts cs) u) full from)

pub parts_push : (cs : List ChildValue) (c : ChildValue) → parts (cs ++ c ∷ []) ≡ parts cs ++ c.spots
parts_push [] c = append-nil c.spots
parts_push (d ∷ cs) c = ap (λ (w : Spots). d.spots ++ w) (parts_push cs c) ∙ sym (append_assoc d.spots (parts cs) c.spots)

-- ---- filters

from_filter : (k : List ℕ) (moment : ℕ) (w : Spots) → IsFrom k w → IsFrom k (filter (spot_stays moment) w)
from_filter k moment [] f = tt
from_filter k moment (s ∷ w) f = at (spot_stays moment s) (from_filter k moment w f.1)
  where
    at : (b : Bool) → IsFrom k (filter (spot_stays moment) w) → IsFrom k (cond b (s ∷ filter (spot_stays moment) w) (filter (spot_stays moment) w))
    at true more = (f.0, more)
    at false more = more

up_to_filter : (k : List ℕ) (moment : ℕ) (w : Spots) → IsUpTo k w → IsUpTo k (filter (spot_stays moment) w)
up_to_filter k moment [] f = tt
up_to_filter k moment (s ∷ w) f = at (spot_stays moment s) (up_to_filter k moment w f.1)
  where
    at : (b : Bool) → IsUpTo k (filter (spot_stays moment) w) → IsUpTo k (cond b (s ∷ filter (spot_stays moment) w) (filter (spot_stays moment) w))
    at true more = (f.0, more)
    at false more = more

same_index : (cs : List ChildValue) (i : ℕ) (d : ChildValue) → get_or (drop i cs) 0 d ≡ get_or cs i d
same_index [] zero d = refl
same_index [] (suc i) d = refl
same_index (c ∷ cs) zero d = refl
same_index (c ∷ cs) (suc i) d = same_index cs i d

pub up_to_at : (cs : List ChildValue) (i : ℕ) (c : ChildValue) → i < length cs → c ≡ get_or cs i c → IsChunk cs → IsUpTo c.level (parts (take i cs))
up_to_at cs i c small is r = let P : ChildValue → Type 0 = λ w. IsUpTo w.level (parts (take i cs)) in subst P (same_index cs i c ∙ sym is) (up_to_all cs i c small r)

-- ---- one child after the other

-- so much is left of the first children
pub record IsSwept (moment : ℕ) (cs left : List ChildValue) (i : ℕ) : Type 0 where
  pub chunk : IsChunk left
  pub same : parts left ≡ filter (spot_stays moment) (parts (take i cs))

module _ (moment : ℕ) (cs left : List ChildValue) (i : ℕ) where
  module _ (c : ChildValue) (small : i < length cs) (is : c ≡ get_or cs i c) (r : IsChunk cs) (so : IsSwept moment cs left i) where
    more : filter (spot_stays moment) (parts (take (i + 1) cs)) ≡ filter (spot_stays moment) (parts (take i cs)) ++ filter (spot_stays moment) c.spots
    more =
        ap (λ (l : List ChildValue). filter (spot_stays moment) (parts l)) (take_more cs i c small ∙ ap (λ (w : ChildValue). take i cs ++ w ∷ []) (sym is))
        ∙ (ap (filter (spot_stays moment)) (parts_push (take i cs) c) ∙ filter-append (spot_stays moment) (parts (take i cs)) c.spots)

    pub swept_gone : IsLeft moment c None → IsSwept moment cs left (i + 1)
    swept_gone h = record {
      chunk = so.chunk;
      same = so.same ∙ sym (more ∙ (ap (λ (w : Spots). filter (spot_stays moment) (parts (take i cs)) ++ w) h ∙ append-nil (filter (spot_stays moment) (parts (take i cs)))));
    }

    pub swept_left : (d : ChildValue) (new : List ChildValue) → new ≡ left ++ d ∷ [] → IsLeft moment c (Some d) → IsSwept moment cs new (i + 1)
    swept_left d new put h =
        let up : IsUpTo d.level (parts left) = (let P : List ℕ → Type 0 = λ k. IsUpTo k (parts left) in subst P (sym h.0) (let Q : Spots → Type 0 = λ w. IsUpTo c.level w in subst Q (sym so.same) (up_to_filter c.level moment (parts (take i cs)) (up_to_at cs i c small is r)))) in
        let from : IsFrom d.level d.spots = (let P : List ℕ → Type 0 = λ k. IsFrom k d.spots in subst P (sym h.0) (let Q : Spots → Type 0 = λ w. IsFrom c.level w in subst Q (sym h.1) (from_filter c.level moment c.spots (from_at cs i c small is r)))) in
        record {
          chunk = (let P : List ChildValue → Type 0 = λ l. IsChunk l in subst P (sym put) (chunk_push left d so.chunk up h.2 from));
          same = ap parts put ∙ (parts_push left d ∙ (ap (λ (w : Spots). w ++ d.spots) so.same ∙ (ap (λ (w : Spots). filter (spot_stays moment) (parts (take i cs)) ++ w) h.1 ∙ sym more)));
        }

pub take_whole : (cs : List ChildValue) (i : ℕ) → length cs ≤ i → take i cs ≡ cs
take_whole [] zero small = refl
take_whole [] (suc i) small = refl
take_whole (c ∷ cs) zero small = absurd (omega (arith, small))
take_whole (c ∷ cs) (suc i) small = ap (λ (l : List ChildValue). c ∷ l) (take_whole cs i (omega (arith, small)))

-- ---- the same, where nothing is built as long as no message goes

begun_is : (moment : ℕ) (cs : List ChildValue) (i : ℕ) (g : Bool) (left begun : List ChildValue) → IsChunk cs → IsRestOf moment (take i cs) g left → begun ≡ (if g then left else take i cs) → IsSwept moment cs begun i
begun_is moment cs i true left begun r so put = let P : List ChildValue → Type 0 = λ l. IsSwept moment cs l i in subst P (sym put) (record { chunk = so.0; same = so.1 })
begun_is moment cs i false left begun r so put = let P : List ChildValue → Type 0 = λ l. IsSwept moment cs l i in subst P (sym put) (record { chunk = chunk_take cs i r; same = sym so })

pub rest_none : (moment : ℕ) (cs left : List ChildValue) (i : ℕ) (g : Bool) → left ≡ [] → i ≡ 0 → IsRestOf moment (take i cs) g left
rest_none moment cs left i g none start = let P : ℕ → Type 0 = λ n. IsRestOf moment (take n cs) g left in subst P (sym start) (at g)
  where
    at : (g : Bool) → IsRestOf moment [] g left
    at false = refl
    at true = (let P : List ChildValue → Type 0 = λ l. IsChunk l × (parts l ≡ []) in subst P (sym none) (tt, refl))

pub rest_whole : (moment : ℕ) (cs left : List ChildValue) (i : ℕ) (g : Bool) → length cs ≤ i → IsRestOf moment (take i cs) g left → IsRestOf moment cs g left
rest_whole moment cs left i g all so = let P : List ChildValue → Type 0 = λ l. IsRestOf moment l g left in subst P (take_whole cs i all) so

module _ (moment : ℕ) (cs : List ChildValue) (i : ℕ) (c : ChildValue) (small : i < length cs) (is : c ≡ get_or cs i c) (r : IsChunk cs) where
  taken : parts (take (i + 1) cs) ≡ parts (take i cs) ++ c.spots
  taken = ap parts (take_more cs i c small ∙ ap (λ (w : ChildValue). take i cs ++ w ∷ []) (sym is)) ∙ parts_push (take i cs) c

  pub rest_unchanged : (g : Bool) (left : List ChildValue) → g ≡ false → IsRestOf moment (take i cs) g left → filter (spot_stays moment) c.spots ≡ c.spots → IsRestOf moment (take (i + 1) cs) g left
  rest_unchanged true left off so here = absurd (cc (off))
  rest_unchanged false left off so here =
      let P : Spots → Type 0 = λ w. filter (spot_stays moment) w ≡ w in
      subst P (sym taken) (filter-append (spot_stays moment) (parts (take i cs)) c.spots ∙ (ap (λ (x : Spots). x ++ filter (spot_stays moment) c.spots) so ∙ ap (λ (x : Spots). parts (take i cs) ++ x) here))

  of_swept : (g : Bool) (new : List ChildValue) → g ≡ true → IsSwept moment cs new (i + 1) → IsRestOf moment (take (i + 1) cs) g new
  of_swept false new on so = absurd (cc (on))
  of_swept true new on so = (so.chunk, so.same)

  pub rest_put : (g g' : Bool) (left begun new : List ChildValue) (d : ChildValue) → IsRestOf moment (take i cs) g left → begun ≡ (if g then left else take i cs) → g' ≡ true → new ≡ begun ++ d ∷ [] → IsLeft moment c (Some d) → IsRestOf moment (take (i + 1) cs) g' new
  rest_put g g' left begun new d so put on more h = of_swept g' new on (swept_left moment cs begun i c small is r (begun_is moment cs i g left begun r so put) d new more h)

  pub rest_gone : (g g' : Bool) (left begun : List ChildValue) → IsRestOf moment (take i cs) g left → begun ≡ (if g then left else take i cs) → g' ≡ true → filter (spot_stays moment) c.spots ≡ [] → IsRestOf moment (take (i + 1) cs) g' begun
  rest_gone g g' left begun so put on h = of_swept g' begun on (swept_gone moment cs begun i c small is r (begun_is moment cs i g left begun r so put) h)

  pub rest_again : (g : Bool) (left new : List ChildValue) (d : ChildValue) → g ≡ true → IsRestOf moment (take i cs) g left → new ≡ left ++ d ∷ [] → d ≡ c → filter (spot_stays moment) c.spots ≡ c.spots → IsFull c.spots → IsRestOf moment (take (i + 1) cs) g new
  rest_again g left new d on so more same stay full =
      let P : ChildValue → Type 0 = λ w. IsLeft moment c (Some w) in
      rest_put g g left left new d so (rw on refl) on more (subst P (sym same) (refl, sym stay, full))

-- ---- one child

pub full_not : (w : Spots) → is_nothing w ≡ false → IsFull w
full_not [] n = absurd (cc (n))
full_not (s ∷ w) n = tt

pub none_is : (w : Spots) → is_nothing w ≡ true → w ≡ []
none_is [] n = refl
none_is (s ∷ w) n = absurd (cc (n))

none_below : (ks : List (List ℕ)) → under_all ks [] ≡ []
none_below [] = refl
none_below (k ∷ ks) = ap (under k) (none_below ks)

pub chain_left : (moment : ℕ) (ks : List (List ℕ)) (w w' : Spots) → w' ≡ filter (spot_stays moment) w → under_all ks w' ≡ filter (spot_stays moment) (under_all ks w)
chain_left moment ks w w' is = ap (under_all ks) is ∙ sym (swept_chain moment ks w)

pub chain_gone : (moment : ℕ) (ks : List (List ℕ)) (w w' : Spots) → w' ≡ filter (spot_stays moment) w → w' ≡ [] → filter (spot_stays moment) (under_all ks w) ≡ []
chain_gone moment ks w w' is none = sym (chain_left moment ks w w' is) ∙ (ap (under_all ks) none ∙ none_below ks)

-- ---- a branch

pub nothing_is : (retained : Option Found) (cs : List ChildValue) → IsChunk cs → is_some retained ≡ false → length cs ≡ 0 → is_nothing (own retained ++ parts cs) ≡ true
nothing_is None [] r none size = refl
nothing_is None (c ∷ cs) r none size = absurd (omega (arith, size))
nothing_is (Some f) cs r none size = absurd (cc (none))

pub something_retained : (retained : Option Found) (cs : List ChildValue) → is_some retained ≡ true → is_nothing (own retained ++ parts cs) ≡ false
something_retained None cs some = absurd (cc (some))
something_retained (Some f) cs some = refl

pub something_below : (retained : Option Found) (cs : List ChildValue) → IsChunk cs → length cs ≢ 0 → is_nothing (own retained ++ parts cs) ≡ false
something_below (Some f) cs r more = refl
something_below None [] r more = absurd (more refl)
something_below None (c ∷ cs) r more = at (parts (c ∷ cs)) (full_parts (c ∷ cs) r (omega arith))
  where
    at : (w : Spots) → IsFull w → is_nothing w ≡ false
    at [] full = absurd full
    at (s ∷ w) full = refl

-- ---- before the first moment at which one is expired, all stay

none_goes : (moment : ℕ) (w : Spots) → length (filter (is_gone moment) (pairs w)) ≡ 0 → filter (spot_stays moment) w ≡ w
none_goes moment [] n = refl
none_goes moment (s ∷ w) n = at (is_expired moment s.1.message) refl (none_goes moment w)
  where
    at : (b : Bool) → is_expired moment s.1.message ≡ b → (length (filter (is_gone moment) (pairs w)) ≡ 0 → filter (spot_stays moment) w ≡ w) → filter (spot_stays moment) (s ∷ w) ≡ s ∷ w
    at false is more = rw is (ap (λ (x : Spots). s ∷ x) (more (rw is at n)))
    at true is more = absurd (let m : suc (length (filter (is_gone moment) (pairs w))) ≡ 0 = (rw is at n) in omega (arith, m))

pub stays_all : (moment : ℕ) (w : Spots) → moment < earliest (2 ^ 64 - 1) w → filter (spot_stays moment) w ≡ w
stays_all moment w early = none_goes moment w (calm_until (earliest (2 ^ 64 - 1) w) (pairs w) (pairs_end (2 ^ 64 - 1) w) moment early)

pub chain_stays : (moment : ℕ) (ks : List (List ℕ)) (w : Spots) → filter (spot_stays moment) w ≡ w → filter (spot_stays moment) (under_all ks w) ≡ under_all ks w
chain_stays moment ks w stay = sym (chain_left moment ks w w (sym stay))

pub full_at : (cs : List ChildValue) (i : ℕ) (c : ChildValue) → i < length cs → c ≡ get_or cs i c → IsChunk cs → IsFull c.spots
full_at cs i c small is r = let P : ChildValue → Type 0 = λ w. IsFull w.spots in subst P (sym is) (chunk_at cs i c small r).0

pub nothing_by : (retained : Option Found) (cs : List ChildValue) (n : ℕ) → IsChunk cs → is_some retained ≡ false → n ≡ length cs → (n == 0) ≡ is_nothing (own retained ++ parts cs)
nothing_by retained cs n r none size = at (n == 0) refl
  where
    at : (b : Bool) → (n == 0) ≡ b → (n == 0) ≡ is_nothing (own retained ++ parts cs)
    at true is = is ∙ sym (nothing_is retained cs r none (let z : n ≡ 0 = grind (arith, nat_tests, is) in omega (arith, size, z)))
    at false is = is ∙ sym (something_below retained cs r (λ h. let z : n ≢ 0 = (λ k. grind (arith, nat_tests, is, k)) in z (omega (arith, size, h))))

pub level_left : (moment : ℕ) (k k' : List ℕ) (w w' : Spots) → k' ≡ k → w' ≡ filter (spot_stays moment) w → IsFull w' → (k' ≡ k) × (under k' w' ≡ filter (spot_stays moment) (under k w)) × IsFull (under k' w')
level_left moment k k' w w' same is full = rw same (refl, chain_left moment (k ∷ []) w w' is, full_under k w' full)

-- a child that is put into another shape
pub joined_left : (moment : ℕ) (c d e : ChildValue) → e.level ≡ d.level → e.spots ≡ d.spots → IsLeft moment c (Some d) → IsLeft moment c (Some e)
joined_left moment c d e same is h = (same ∙ h.0, is ∙ h.1, let P : Spots → Type 0 = λ w. IsFull w in subst P (sym is) h.2)
