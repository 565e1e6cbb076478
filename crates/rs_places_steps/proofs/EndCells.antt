-- Each step keeps the rule of the cell in which the end of a client comes.
use Rattle.std.proofs.Common.{◌≡◌, ◌≢◌, ℕ, zero, suc, List, [], ◌∷◌, ◌++◌, MatchOption, Option, Some, None, length, set, sym, refl, ap, ◌∙◌, subst, ⊎_elim}
use Rattle.std.specs.List.{AllByRecursion}
use mathlib.Core.Option.{some, some-ne-none}
use lib.ListN.{get_elem?}
use Rattle.crossbeam_queue.specs.Fifo.{Pushes, Pops, Forks}
use Rattle.crossbeam_queue.proofs.Lists.{at_set, at_snoc}
use Rattle.rs_places_steps.specs.EndCell.{IsEndCell, KnowsClient}

module _ {X B : Type 0} (begun : X → B) where
  at_end : (l : List (Option B)) (a b : Option B) (j : ℕ) → get_elem? l j ≢ some b → get_elem? (l ++ a ∷ []) j ≡ some b → j ≡ length l
  at_end [] a b zero n e = refl
  at_end [] a b (suc j) n e = absurd (some-ne-none b (sym e))
  at_end (x ∷ xs) a b zero n e = absurd (n e)
  at_end (x ∷ xs) a b (suc j) n e = ap suc (at_end xs a b j n e)

  abbrev Each : (ℕ → Option B → Type 0) → List (Option B) → Type 0
  Each F views = (port : ℕ) (v : Option B) → get_elem? views port ≡ some v → F port v

  each_set : (F : ℕ → Option B → Type 0) (views : List (Option B)) (port : ℕ) (w : Option B) → F port w → ((j : ℕ) (u : Option B) → j ≢ port → get_elem? views j ≡ some u → F j u) → Each F (set views port w)
  each_set F views port w mine others j u e = ⊎_elim (λ (x : (j ≡ port) × (w ≡ u)). subst (λ (y : ℕ × Option B). F y.0 y.1) (λ i. (sym x.0 i, x.1 i)) mine)
      (λ (x : (j ≢ port) × (get_elem? views j ≡ some u)). others j u x.0 x.1) (at_set views port j w u e)

  pub begins : IsEndCell begun [] (None ∷ [])
  begins = record {
    owner = 0;
    client = None;
    lies = tt;
    known = each_set (KnowsClient 0 None) (None ∷ []) 0 None (record { same = refl; alone = λ _. refl }) (λ j u other e. absurd (other (at_end [] None u j (λ x. some-ne-none u (sym x)) e)));
  }

  no_client : (c : B) → None ≢ Some c
  no_client c e = cc

  all_snoc : (P : X → Type 0) (items : List X) (x : X) → AllByRecursion P items → P x → AllByRecursion P (items ++ x ∷ [])
  all_snoc P [] x all last = (last, tt)
  all_snoc P (y ∷ ys) x all last = (all.0, all_snoc P ys x all.1 last)

  -- if it was not said whose end comes, nothing lies there
  nothing_lies : (c : B) (items : List X) → AllByRecursion (λ coming. None ≡ Some (begun coming)) items → AllByRecursion (λ coming. Some c ≡ Some (begun coming)) items
  nothing_lies c [] all = tt
  nothing_lies c (y ∷ ys) all = absurd (no_client (begun y) all.0)

  pub says : (n port : ℕ) (v : Option B) (x : X) → v ≡ None → Pushes (IsEndCell begun) n port v x (λ w. w ≡ Some (begun x))
  says n port v x none items views short h at =
      let c : Option B = Some (begun x) in
      let own = h.known port v at in
      let is : h.client ≡ None = sym own.same ∙ none in
      let P : Option B → Type 0 = λ client. AllByRecursion (λ coming. client ≡ Some (begun coming)) items in
      let before : AllByRecursion (λ coming. c ≡ Some (begun coming)) items = nothing_lies (begun x) items (subst P is h.lies) in (
        c,
        record {
          owner = h.owner;
          client = c;
          lies = all_snoc (λ coming. c ≡ Some (begun coming)) items x before refl;
          known = each_set (KnowsClient h.owner c) views port c (record { same = refl; alone = λ e. absurd (no_client (begun x) (sym e)) })
              (λ j u other e. absurd (other ((h.known j u e).alone is ∙ sym (own.alone is))));
        },
        refl,
      )

  pub takes : (port : ℕ) (v : Option B) → Pops (IsEndCell begun) port v (λ x w. (w ≡ v) × (v ≡ Some (begun x)))
  takes port v x items views h at = (
    v,
    record {
      owner = h.owner;
      client = h.client;
      lies = h.lies.1;
      known = each_set (KnowsClient h.owner h.client) views port v (h.known port v at) (λ j u other e. h.known j u e);
    },
    (refl, (h.known port v at).same ∙ h.lies.0),
  )

  pub puts : (n port : ℕ) (v : Option B) (x : X) → v ≡ Some (begun x) → Pushes (IsEndCell begun) n port v x (λ w. w ≡ v)
  puts n port v x is items views short h at = (
    v,
    record {
      owner = h.owner;
      client = h.client;
      lies = all_snoc (λ coming. h.client ≡ Some (begun coming)) items x h.lies (sym (h.known port v at).same ∙ is);
      known = each_set (KnowsClient h.owner h.client) views port v (h.known port v at) (λ j u other e. h.known j u e);
    },
    refl,
  )

  pub shares : (port : ℕ) (v : Option B) (c : B) → v ≡ Some c → Forks (IsEndCell begun) port v v v
  shares port v c is items views h at =
      let vs : List (Option B) = set views port v in
      let own = h.known port v at in
      let F : ℕ → Option B → Type 0 = KnowsClient h.owner h.client in
      let old : Each F vs = each_set F views port v own (λ j u other e. h.known j u e) in
      record {
        owner = h.owner;
        client = h.client;
        lies = h.lies;
        known = λ j u e. ⊎_elim (old j u)
            (λ (same : v ≡ u). subst (F j) same (record { same = own.same; alone = λ (none : h.client ≡ None). absurd (no_client c (sym none ∙ (sym own.same ∙ is))) }))
            (at_snoc vs v u j e);
      }

  -- whether something was taken out or not, the same is known
  pub stays : (taken : Option X) (old new : Option B) → MatchOption taken (new ≡ old) (λ x. (new ≡ old) × (old ≡ Some (begun x))) → new ≡ old
  stays None old new h = h
  stays (Some x) old new h = h.0
