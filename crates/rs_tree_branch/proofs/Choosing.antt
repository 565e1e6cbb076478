-- What a filter chooses of a branch, child by child.
use Rattle.rs_tree_branch.proofs.Chosen.{goes, stops, all_here, chosen_same, dollar_stops, hash_goes, plain_goes, plus_goes, plus_not_here}
use Rattle.rs_tree_bucket.proofs.Chosen.{Test, chosen-append}
use Rattle.std.proofs.Common.{◌≡◌, ℕ, suc, ◌+◌, ◌<◌, ◌≤◌, Bool, true, false, not, ◌&&◌, List, [], ◌∷◌, ◌++◌, length, get_or, take, drop, refl, sym, ap, subst, ◌∙◌, append_assoc, add-one, Option, Some, None, Result, Ok, Err}
use Rattle.std.proofs.lemmas.Bool.{and_parts, or_right}
use Rattle.std.proofs.lemmas.List.{append-nil, drop_all}
use Rattle.std.specs.Prelude.{IfErr, OnOk}
use Rattle.std.specs.Str.{bytes_eq}
use Rattle.std.specs.Cmp.Lexicographic.{bytes_decides}
use Rattle.std.specs.declared.cmp.Ordering.TheVariants.{Less, Greater}
use Rattle.std.proofs.lemmas.Cmp.{nat_list_cmp_total, tied_itself}
use Rattle.rs_message.specs.declared.found.Found.{Found}
use Rattle.rs_message.specs.Messages.{is_expired}
use Rattle.rs_topic.specs.Topics.{hash, is_end, plus}
use Rattle.rs_topic.specs.Order.{path_cmp}
use Rattle.rs_topic.specs.TopicOrder.{path_total}
use Rattle.rs_topic.specs.Matching.{begins_with_dollar, fits, is_wild}
use Rattle.rs_tree_bucket.specs.Chosen.{chosen, chosen_by, own_chosen}
use Rattle.rs_tree_branch.specs.Chosen.{chosen_at_root, is_matched, is_plain_below}
use Rattle.rs_tree_branch.specs.Spots.{own}
use Rattle.rs_tree_bucket.specs.Spots.{under}
use Rattle.rs_tree_branch.specs.Answers.{Enters, EntersAs, Steps}
use Rattle.rs_tree_bucket.specs.Answers.{Gives}
use Rattle.std.specs.declared.sync.Arc.{Arc}
use Rattle.std.specs.declared.alloc.Global.{Global}
use Rattle.rs_tree_branch.specs.declared.branch.Below.{Below}
use Rattle.rs_tree_branch.specs.declared.branch.Below.TheVariants.{Chunk, Few, Inner}
use Rattle.rs_tree_branch.specs.Nodes.{spots_of, stem_spots}
use Rattle.rs_store.specs.Room.{IsStop}
use Rattle.rs_tree_branch.specs.Chunks.{IsBehind, IsChunk, IsFrom, IsGap, IsIn, Takes, parts}
use Rattle.rs_tree_branch.specs.Values.{BranchValue, ChildValue}
use Rattle.rs_store.specs.declared.answer.Answer.{Answer}
use Rattle.rs_store.specs.declared.answer.Stop.{Stop}
use Rattle.rs_tree_branch.proofs.Chunks.{Precedes, gap_front, gap_rear, in_front, in_rear, parts_at, split_at, split_gap}
use Rattle.rs_tree_bucket.proofs.Spots.{Spots, Path}
use Rattle.rs_tree_bucket.proofs.Stopping.{stop_at, stop_more}

-- ---- an answer in two parts

pub gives_same : {T : Type 0} (r : Result T Stop) (old new : Answer) (a b : List Found) → a ≡ b → Gives r old new a → Gives r old new b
gives_same r old new a b same g = let P : List Found → Type 0 = λ w. Gives r old new w in subst P same g

pub gives_none : (old : Answer) (a : List Found) → a ≡ [] → Gives {T = Unit {0}} (Ok tt) old old a
gives_none old a none = rw none (sym (append-nil old.found.items), refl)

-- the parts that calls say are one
pub gives_of : {T : Type 0} (r : Result T Stop) (old new : Answer) (a : List Found) → OnOk r (new.found.items ≡ old.found.items ++ a) → IfErr r (λ s. IsStop s old.room (old.found.items ++ a)) → new.room ≡ old.room → Gives r old new a
gives_of (Ok u) old new a done stop room = (done, room)
gives_of (Err s) old new a done stop room = (stop, room)

pub gives_then : {T : Type 0} (r : Result T Stop) (old mid new : Answer) (a b : List Found) → mid.found.items ≡ old.found.items ++ a → mid.room ≡ old.room → Gives r mid new b → Gives r old new (a ++ b)
gives_then (Ok u) old mid new a b items room g = (g.0 ∙ (ap (λ (l : List Found). l ++ b) items ∙ append_assoc old.found.items a b), g.1 ∙ room)
gives_then (Err s) old mid new a b items room g =
    let P : ℕ → Type 0 = λ n. IsStop s n (old.found.items ++ (a ++ b)) in
    (subst P room (stop_at s mid.room (mid.found.items ++ b) (old.found.items ++ (a ++ b)) (ap (λ (l : List Found). l ++ b) items ∙ append_assoc old.found.items a b) g.0), g.1 ∙ room)

pub gives_stop : (s : Stop) (old new : Answer) (a b : List Found) → Gives {T = Unit {0}} (Err s) old new a → Gives {T = Unit {0}} (Err s) old new (a ++ b)
gives_stop s old new a b g = (stop_at s old.room ((old.found.items ++ a) ++ b) (old.found.items ++ (a ++ b)) (append_assoc old.found.items a b) (stop_more s old.room (old.found.items ++ a) b g.0), g.1)

pub gives_done : {T : Type 0} (r : Result T Stop) (old new : Answer) (a : List Found) → Gives r old new a → OnOk r (new.found.items ≡ old.found.items ++ a)
gives_done (Ok u) old new a g = g.0
gives_done (Err s) old new a g = tt

pub gives_why : {T : Type 0} (r : Result T Stop) (old new : Answer) (a : List Found) → Gives r old new a → IfErr r (λ s. IsStop s old.room (old.found.items ++ a))
gives_why (Ok u) old new a g = tt
gives_why (Err s) old new a g = g.0

pub gives_room : {T : Type 0} (r : Result T Stop) (old new : Answer) (a : List Found) → Gives r old new a → new.room ≡ old.room
gives_room (Ok u) old new a g = g.1
gives_room (Err s) old new a g = g.1

-- ---- one child after the other

-- so much is appended, and these are left
abbrev pub IsSoFar : Test → ℕ → Answer → Answer → List ChildValue → ℕ → Type 0
IsSoFar test now old mid cs i = (mid.found.items ++ chosen_by test now (parts (drop i cs)) ≡ old.found.items ++ chosen_by test now (parts cs)) × (mid.room ≡ old.room)

module _ (test : Test) (now : ℕ) (old mid new : Answer) (cs : List ChildValue) (i : ℕ) where
  pub so_far_end : length cs ≤ i → IsSoFar test now old mid cs i → Gives {T = Unit {0}} (Ok tt) old mid (chosen_by test now (parts cs))
  so_far_end all so =
      let none : parts (drop i cs) ≡ [] = ap parts (drop_all i cs all) in
      (sym (append-nil mid.found.items) ∙ (ap (λ (w : Spots). mid.found.items ++ chosen_by test now w) (sym none) ∙ so.0), so.1)

  here : (c : ChildValue) → i < length cs → c ≡ get_or cs i c → chosen_by test now (parts (drop i cs)) ≡ chosen_by test now c.spots ++ chosen_by test now (parts (drop (suc i) cs))
  here c small is =
      ap (chosen_by test now) (parts_at cs i c small ∙ ap (λ (w : ChildValue). w.spots ++ parts (drop (suc i) cs)) (sym is)) ∙ chosen-append test now c.spots (parts (drop (suc i) cs))

  pub so_far_more : (c : ChildValue) → i < length cs → c ≡ get_or cs i c → IsSoFar test now old mid cs i → Gives {T = Unit {0}} (Ok tt) mid new (chosen_by test now c.spots) → IsSoFar test now old new cs (i + 1)
  so_far_more c small is so g =
      let n : i + 1 ≡ suc i = add-one i in
      let items : new.found.items ++ chosen_by test now (parts (drop (suc i) cs)) ≡ old.found.items ++ chosen_by test now (parts cs) =
      ap (λ (l : List Found). l ++ chosen_by test now (parts (drop (suc i) cs))) g.0
      ∙ (append_assoc mid.found.items (chosen_by test now c.spots) (chosen_by test now (parts (drop (suc i) cs))) ∙ (ap (λ (l : List Found). mid.found.items ++ l) (sym (here c small is)) ∙ so.0)) in
      let P : ℕ → Type 0 = λ m. IsSoFar test now old new cs m in subst P (sym n) (items, g.1 ∙ so.1)

  pub so_far_stop : (c : ChildValue) (s : Stop) → i < length cs → c ≡ get_or cs i c → IsSoFar test now old mid cs i → Gives {T = Unit {0}} (Err s) mid new (chosen_by test now c.spots) → Gives {T = Unit {0}} (Err s) old new (chosen_by test now (parts cs))
  so_far_stop c s small is so g =
      let more = stop_more s mid.room (mid.found.items ++ chosen_by test now c.spots) (chosen_by test now (parts (drop (suc i) cs))) g.0 in
      let whole : (mid.found.items ++ chosen_by test now c.spots) ++ chosen_by test now (parts (drop (suc i) cs)) ≡ old.found.items ++ chosen_by test now (parts cs) =
      append_assoc mid.found.items (chosen_by test now c.spots) (chosen_by test now (parts (drop (suc i) cs))) ∙ (ap (λ (l : List Found). mid.found.items ++ l) (sym (here c small is)) ∙ so.0) in
      let P : ℕ → Type 0 = λ n. IsStop s n (old.found.items ++ chosen_by test now (parts cs)) in
      (subst P so.1 (stop_at s mid.room _ _ whole more), g.1 ∙ so.1)

-- ---- below one level

steps_enter : (b : Bool) (level : List ℕ) (pattern rest : Path) → Steps pattern rest → EntersAs b level pattern rest
steps_enter true level pattern rest s = tt
steps_enter false level pattern rest s = s level

pub steps_in : (c : ChildValue) (pattern rest : Path) → Steps pattern rest → Enters c pattern rest
steps_in c pattern rest s = steps_enter c.is_chunk c.level pattern rest s

-- below a level without a dollar, and with one
plain_child : (pattern rest : Path) (now : ℕ) (k : List ℕ) (w : Spots) → Steps pattern rest → begins_with_dollar k ≡ false → chosen pattern now (under k w) ≡ chosen_by (is_plain_below rest) now (under k w)
plain_child pattern rest now k w s h = goes (fits pattern) (fits rest) now k (s k) w ∙ sym (goes (is_plain_below rest) (fits rest) now k (plain_goes rest k h) w)

dollar_child : (rest : Path) (now : ℕ) (k : List ℕ) (w : Spots) → begins_with_dollar k ≡ true → chosen_by (is_plain_below rest) now (under k w) ≡ []
dollar_child rest now k w h = stops (is_plain_below rest) now k (dollar_stops rest k h) w

pub plain_below : (pattern rest : Path) (now : ℕ) (k : List ℕ) (b : Below) → ((x : Arc BranchValue Global) → b ≡ Chunk x → ⊥) → Steps pattern rest → begins_with_dollar k ≡ false → chosen pattern now (spots_of k b) ≡ chosen_by (is_plain_below rest) now (spots_of k b)
plain_below pattern rest now k (Few b) n s h = plain_child pattern rest now k b s h
plain_below pattern rest now k (Inner b) n s h = plain_child pattern rest now k (stem_spots b.value) s h
plain_below pattern rest now k (Chunk b) n s h = absurd (n b refl)

pub dollar_below : (rest : Path) (now : ℕ) (k : List ℕ) (b : Below) → ((x : Arc BranchValue Global) → b ≡ Chunk x → ⊥) → begins_with_dollar k ≡ true → chosen_by (is_plain_below rest) now (spots_of k b) ≡ []
dollar_below rest now k (Few b) n h = dollar_child rest now k b h
dollar_below rest now k (Inner b) n h = dollar_child rest now k (stem_spots b.value) h
dollar_below rest now k (Chunk b) n h = absurd (n b refl)

-- ---- a whole branch

-- two tests that agree on each path with a level
level_same : (test other : Test) (now : ℕ) → ((k : List ℕ) (p : Path) → test (k ∷ p) ≡ other (k ∷ p)) → (k : List ℕ) (w : Spots) → IsFrom k w → chosen_by test now w ≡ chosen_by other now w
level_same test other now same k [] f = refl
level_same test other now same k (([], m) ∷ w) f = absurd (f.0 refl)
level_same test other now same k ((h ∷ p, m) ∷ w) f = rw (same h p, level_same test other now same k w f.1) refl

pub parts_same : (test other : Test) (now : ℕ) → ((k : List ℕ) (p : Path) → test (k ∷ p) ≡ other (k ∷ p)) → (cs : List ChildValue) → IsChunk cs → chosen_by test now (parts cs) ≡ chosen_by other now (parts cs)
parts_same test other now same [] r = refl
parts_same test other now same (c ∷ cs) r =
    chosen-append test now c.spots (parts cs) ∙ (cc (level_same test other now same c.level c.spots r.1, parts_same test other now same cs r.3) ∙ sym (chosen-append other now c.spots (parts cs)))

abbrev nothing : Test
nothing p = false

chosen_nothing : (now : ℕ) (w : Spots) → chosen_by nothing now w ≡ []
chosen_nothing now [] = refl
chosen_nothing now (s ∷ w) = chosen_nothing now w

pub ended : (retained : Option Found) (cs : List ChildValue) (now : ℕ) → IsChunk cs → chosen [] now (own retained ++ parts cs) ≡ own_chosen now retained
ended retained cs now r =
    chosen-append (fits []) now (own retained) (parts cs)
    ∙ (ap (λ (l : List Found). chosen_by (fits []) now (own retained) ++ l) (parts_same (fits []) nothing now (λ k p. refl) cs r ∙ chosen_nothing now (parts cs)) ∙ (append-nil (chosen_by (fits []) now (own retained)) ∙ mine retained))
  where
    mine : (retained : Option Found) → chosen_by (fits []) now (own retained) ≡ own_chosen now retained
    mine None = refl
    mine (Some f) = refl

pub all_of : (pattern : Path) (level : List ℕ) (more : Path) (retained : Option Found) (cs : List ChildValue) (now : ℕ) → pattern ≡ level ∷ more → fits (level ∷ more) [] ≡ true → own_chosen now retained ++ chosen pattern now (parts cs) ≡ chosen pattern now (own retained ++ parts cs)
all_of pattern level more retained cs now is h = rw is (ap (λ (l : List Found). l ++ chosen (level ∷ more) now (parts cs)) (sym (all_here level more now retained h)) ∙ sym (chosen-append (fits (level ∷ more)) now (own retained) (parts cs)))

pub plus_of : (pattern : Path) (level : List ℕ) (more : Path) (retained : Option Found) (cs : List ChildValue) (now : ℕ) → pattern ≡ level ∷ more → fits (level ∷ more) [] ≡ false → chosen pattern now (parts cs) ≡ chosen pattern now (own retained ++ parts cs)
plus_of pattern level more retained cs now is h = rw is (ap (λ (l : List Found). l ++ chosen (level ∷ more) now (parts cs)) (sym (plus_not_here level more now retained h)) ∙ sym (chosen-append (fits (level ∷ more)) now (own retained) (parts cs)))

pub hash_steps : (pattern : Path) (level : List ℕ) (more : Path) → pattern ≡ level ∷ more → fits (level ∷ more) [] ≡ true → Steps pattern pattern
hash_steps pattern level more is h k p = rw is (hash_goes level more h k p)

pub plus_steps : (pattern : Path) (level : List ℕ) (more : Path) → pattern ≡ level ∷ more → fits (level ∷ more) [] ≡ false → bytes_eq level (plus ∷ []) ≡ true → Steps pattern more
plus_steps pattern level more is h e k p = rw is (plus_goes level more h e k p)

-- ---- a level without a wildcard

module _ (q : List ℕ) (more : Path) (now : ℕ) (wild : bytes_eq q (plus ∷ []) ≡ false) (ends : fits (q ∷ more) [] ≡ false) where
  other : (k : List ℕ) (p : Path) → bytes_eq q k ≡ false → fits (q ∷ more) (k ∷ p) ≡ false
  other k p h = rw (ends, wild, h) refl

  pub same_level : (p : Path) → fits (q ∷ more) (q ∷ p) ≡ fits more p
  same_level p = rw (ends, wild, (bytes_decides q q).1 refl) refl

  behind_none : (w : Spots) → IsBehind (q ∷ []) w → chosen (q ∷ more) now w ≡ []
  behind_none [] b = refl
  behind_none (([], m) ∷ w) b = rw ends (behind_none w b.1)
  behind_none ((k ∷ p, m) ∷ w) b = rw (other k p (at (bytes_eq q k) refl p b.0)) (behind_none w b.1)
    where
      at : (t : Bool) → bytes_eq q k ≡ t → (p : Path) → path_cmp (q ∷ []) (k ∷ p) ≡ Greater → bytes_eq q k ≡ false
      at false is p g = is
      at true is [] g = let same : q ≡ k = (bytes_decides q k).0 is in absurd (let e : path_cmp (k ∷ []) (k ∷ []) ≡ Greater = (rw same at g) in cc (e, tied_itself path_total (k ∷ [])))
      at true is (h ∷ p) g = let same : q ≡ k = (bytes_decides q k).0 is in absurd (let e : path_cmp (k ∷ []) (k ∷ h ∷ p) ≡ Greater = (rw same at g) in cc (e, tied_itself nat_list_cmp_total k))

  preceding_none : (w : Spots) → ((p : Path) → Precedes (q ∷ p) w) → chosen (q ∷ more) now w ≡ []
  preceding_none [] a = refl
  preceding_none (([], m) ∷ w) a = rw ends (preceding_none w (λ p. (a p).1))
  preceding_none ((k ∷ p, m) ∷ w) a = rw (other k p (at (bytes_eq q k) refl)) (preceding_none w (λ r. (a r).1))
    where
      at : (t : Bool) → bytes_eq q k ≡ t → bytes_eq q k ≡ false
      at false is = is
      at true is = let same : q ≡ k = (bytes_decides q k).0 is in absurd (let e : path_cmp (k ∷ p) (k ∷ p) ≡ Less = (rw same at (a p).0) in cc (e, tied_itself path_total (k ∷ p)))

  three : (l w r : Spots) → chosen (q ∷ more) now l ≡ [] → chosen (q ∷ more) now r ≡ [] → chosen (q ∷ more) now (l ++ (w ++ r)) ≡ chosen (q ∷ more) now w
  three l w r a b =
      chosen-append (fits (q ∷ more)) now l (w ++ r)
      ∙ (ap (λ (x : List Found). x ++ chosen (q ∷ more) now (w ++ r)) a ∙ (chosen-append (fits (q ∷ more)) now w r ∙ (ap (λ (x : List Found). chosen (q ∷ more) now w ++ x) b ∙ append-nil (chosen (q ∷ more) now w))))

  module _ (retained : Option Found) (cs : List ChildValue) (r : IsChunk cs) (i : ℕ) where
    pub exact_in : (c : ChildValue) → i < length cs → IsIn q cs i → c ≡ get_or cs i c → chosen (q ∷ more) now c.spots ≡ chosen (q ∷ more) now (own retained ++ parts cs)
    exact_in c small e is =
        ap (λ (w : ChildValue). chosen (q ∷ more) now w.spots) is
        ∙ (sym (three (own retained ++ parts (take i cs)) (get_or cs i c).spots (parts (drop (suc i) cs)) (behind_none (own retained ++ parts (take i cs)) (in_front retained cs r q [] i e)) (preceding_none (parts (drop (suc i) cs)) (λ p. in_rear retained cs r q p i e)))
        ∙ ap (chosen (q ∷ more) now) (sym (split_at retained cs i c small)))

    pub exact_gap : IsGap q cs i → chosen (q ∷ more) now (own retained ++ parts cs) ≡ []
    exact_gap e =
        ap (chosen (q ∷ more) now) (split_gap retained cs i)
        ∙ (chosen-append (fits (q ∷ more)) now (own retained ++ parts (take i cs)) (parts (drop i cs))
        ∙ cc (behind_none (own retained ++ parts (take i cs)) (gap_front retained cs r q [] i e), preceding_none (parts (drop i cs)) (λ p. gap_rear retained cs r q p i e)))

takes_enter : (b : Bool) (own q : List ℕ) (more : Path) → bytes_eq q (plus ∷ []) ≡ false → fits (q ∷ more) [] ≡ false → Rattle.rs_tree_branch.specs.Chunks.TakesAs b own q → EntersAs b own (q ∷ more) more
takes_enter true own q more w e t = tt
takes_enter false own q more w e t = rw (← t) (same_level q more 0 w e)

pub takes_in : (q : List ℕ) (more : Path) (c : ChildValue) → bytes_eq q (plus ∷ []) ≡ false → fits (q ∷ more) [] ≡ false → Takes q c → Enters c (q ∷ more) more
takes_in q more c w e t = takes_enter c.is_chunk c.level q more w e t

-- ---- the root

pub own_plain : (rest : Path) (retained : Option Found) (cs : List ChildValue) (now : ℕ) → chosen_by (is_plain_below rest) now (parts cs) ≡ chosen_by (is_plain_below rest) now (own retained ++ parts cs)
own_plain rest None cs now = refl
own_plain rest (Some f) cs now = refl

swapped : (a b c : Bool) → c ≡ true → (a && not (c && b)) ≡ (not b && a)
swapped true true c h = rw h refl
swapped true false c h = rw h refl
swapped false true c h = refl
swapped false false c h = refl

plus_wild : (level : List ℕ) (more : List (List ℕ)) → bytes_eq level (plus ∷ []) ≡ true → is_wild (level ∷ more) ≡ true
plus_wild level more h = rw h refl

hash_wild : (level : List ℕ) (more : List (List ℕ)) → fits (level ∷ more) [] ≡ true → is_wild (level ∷ more) ≡ true
hash_wild level more h = or_right (bytes_eq level (plus ∷ [])) (bytes_eq level (hash ∷ [])) (and_parts (bytes_eq level (hash ∷ [])) (is_end more) h).0

-- a hash
pub root_all : (pattern : Path) (level : List ℕ) (more : Path) (now : ℕ) (retained : Option Found) (cs : List ChildValue) → IsChunk cs → pattern ≡ level ∷ more → fits (level ∷ more) [] ≡ true
    → own_chosen now retained ++ chosen_by (is_plain_below pattern) now (parts cs) ≡ chosen_at_root pattern now (own retained ++ parts cs)
root_all pattern level more now retained cs r whole h = rw whole (sym (chosen-append (is_matched (level ∷ more)) now (own retained) (parts cs) ∙ cc (mine retained, parts_same (is_matched (level ∷ more)) (is_plain_below (level ∷ more)) now same cs r)))
  where
    quiet : (b : Bool) → (true && not (b && false)) ≡ true
    quiet true = refl
    quiet false = refl

    here : is_matched (level ∷ more) [] ≡ true
    here = rw h (quiet (is_wild (level ∷ more)))

    mine : (retained : Option Found) → chosen_by (is_matched (level ∷ more)) now (own retained) ≡ own_chosen now retained
    mine None = refl
    mine (Some f) = by (not (is_expired now f.message)) refl
      where
        by : (b : Bool) → not (is_expired now f.message) ≡ b → chosen_by (is_matched (level ∷ more)) now (own (Some f)) ≡ own_chosen now (Some f)
        by true is = rw (here, is) refl
        by false is = rw (here, is) refl

    same : (k : List ℕ) (p : Path) → is_matched (level ∷ more) (k ∷ p) ≡ is_plain_below (level ∷ more) (k ∷ p)
    same k p = ap (λ (b : Bool). b && not (is_wild (level ∷ more) && begins_with_dollar k)) (hash_goes level more h k p) ∙ swapped (fits (level ∷ more) p) (begins_with_dollar k) (is_wild (level ∷ more)) (hash_wild level more h)

-- a plus
pub root_plus : (pattern : Path) (level : List ℕ) (more : Path) (now : ℕ) (retained : Option Found) (cs : List ChildValue) → IsChunk cs → pattern ≡ level ∷ more → fits (level ∷ more) [] ≡ false → bytes_eq level (plus ∷ []) ≡ true
    → chosen_by (is_plain_below more) now (parts cs) ≡ chosen_at_root pattern now (own retained ++ parts cs)
root_plus pattern level more now retained cs r whole h is = rw whole (sym (chosen-append (is_matched (level ∷ more)) now (own retained) (parts cs) ∙ cc (mine retained, parts_same (is_matched (level ∷ more)) (is_plain_below more) now same cs r)))
  where
    mine : (retained : Option Found) → chosen_by (is_matched (level ∷ more)) now (own retained) ≡ []
    mine None = refl
    mine (Some f) = rw h refl

    same : (k : List ℕ) (p : Path) → is_matched (level ∷ more) (k ∷ p) ≡ is_plain_below more (k ∷ p)
    same k p = ap (λ (b : Bool). b && not (is_wild (level ∷ more) && begins_with_dollar k)) (plus_goes level more h is k p) ∙ swapped (fits more p) (begins_with_dollar k) (is_wild (level ∷ more)) (plus_wild level more is)

-- no level at all
pub root_none : (pattern : Path) (now : ℕ) (retained : Option Found) (cs : List ChildValue) → IsChunk cs → pattern ≡ [] → own_chosen now retained ≡ chosen_at_root pattern now (own retained ++ parts cs)
root_none pattern now retained cs r h = rw h (sym (chosen_same (is_matched []) (fits []) now (own retained ++ parts cs) same ∙ ended retained cs now r))
  where
    same : (p : Path) → is_matched [] p ≡ fits [] p
    same [] = refl
    same (k ∷ p) = refl
