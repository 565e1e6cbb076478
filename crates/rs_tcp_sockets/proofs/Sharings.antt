-- Each step keeps the rule of the cell.
use Rattle.std.proofs.Common.{◌≡◌, ◌≢◌, ℕ, Bool, zero, suc, true, false, true≢false, List, [], ◌∷◌, ◌++◌, Option, None, length, set, sym, refl, ap, ◌∙◌, subst, ⊎_elim, ◌⊎◌}
use mathlib.Core.Option.{some, some-ne-none}
use lib.ListN.{get_elem?}
use Rattle.std.specs.Io.KnownBytes.{Keeps}
use Rattle.std.proofs.KnownBytes.{Keeps-refl, Keeps-trans}
use Rattle.crossbeam_queue.specs.Fifo.{Pushes, Pops, Forks}
use Rattle.crossbeam_queue.proofs.Lists.{at_set, at_snoc}
use Rattle.rs_tcp_sockets.specs.declared.sharing.HalfView.{HalfView}
use Rattle.rs_tcp_sockets.specs.Sharing.{view_of, Fits, IsShared}

at_end : (l : List HalfView) (a b : HalfView) (j : ℕ) → get_elem? l j ≢ some b → get_elem? (l ++ a ∷ []) j ≡ some b → j ≡ length l
at_end [] a b zero n e = refl
at_end [] a b (suc j) n e = absurd (some-ne-none b (sym e))
at_end (x ∷ xs) a b zero n e = absurd (n e)
at_end (x ∷ xs) a b (suc j) n e = ap suc (at_end xs a b j n e)

abbrev All : (ℕ → HalfView → Type 0) → List HalfView → Type 0
All F views = (port : ℕ) (v : HalfView) → get_elem? views port ≡ some v → F port v

all_set : (F : ℕ → HalfView → Type 0) (views : List HalfView) (port : ℕ) (w : HalfView) → F port w → ((j : ℕ) (u : HalfView) → j ≢ port → get_elem? views j ≡ some u → F j u) → All F (set views port w)
all_set F views port w mine others j u e = ⊎_elim (λ (x : (j ≡ port) × (w ≡ u)). subst (λ (y : ℕ × HalfView). F y.0 y.1) (λ i. (sym x.0 i, x.1 i)) mine)
    (λ (x : (j ≢ port) × (get_elem? views j ≡ some u)). others j u x.0 x.1) (at_set views port j w u e)

module _ {T : Type 0} (contents : T → Option (List ℕ)) where
  pub begins : IsShared contents [] (view_of true true false None ∷ [])
  begins = (0, 0, None, tt, all_set (Fits {T = T} [] 0 0 None) (view_of true true false None ∷ []) 0 (view_of true true false None) ((λ _. (refl, tt)), λ _. (refl, refl, refl)) (λ j u other e. absurd (other (at_end [] _ u j (λ x. some-ne-none u (sym x)) e))))

  no_item : (x : T) (items : List T) → (x ∷ items) ≢ []
  no_item x items e = cc

  pub takes : (port : ℕ) (v : HalfView) → Pops (IsShared contents) port v (λ x w. (w ≡ view_of v.writes true false (contents x)) × (v.writes ≡ true → Keeps v.known (contents x)))
  takes port v x [] views h at =
      let w : HalfView = view_of v.writes true false (contents x) in
      let now : contents x ≡ h.2 = h.3 in
      let mine = h.4 port v at in (
        w,
        (
          h.0,
          port,
          h.2,
          tt,
          all_set (Fits {T = T} [] h.0 port h.2) views port w
              ((λ t. ((mine.0 t).0, subst (λ (k : Option (List ℕ)). Keeps (contents x) k) now (Keeps-refl (contents x)))), λ _. (refl, now, refl))
              (λ j u other e. ((h.4 j u e).0, λ t. absurd (no_item x [] ((h.4 j u e).1 t).2))),
        ),
        (refl, λ t. subst (λ (k : Option (List ℕ)). Keeps v.known k) (sym now) (mine.0 t).1),
      )
  takes port v x (y ∷ ys) views h at = absurd h.3

  -- the half that has the writer gives it back: the one that writes, or the other with its contents kept
  back : (n port : ℕ) (v : HalfView) (x : T) (out : Bool) → v.holds ≡ true → (v.writes ≡ true) ⊎ Keeps v.known (contents x) → Pushes (IsShared contents) n port v x (λ w. w ≡ view_of v.writes false out (contents x))
  back n port v x out holding may items views capacity h at =
      let w : HalfView = view_of v.writes false out (contents x) in
      let mine = h.4 port v at in
      let held = mine.1 holding in
      let New : List T → Type 0 = λ l. IsShared contents (l ++ x ∷ []) (set views port w) in
      let at_empty : New [] = (
        h.0,
        h.1,
        contents x,
        refl,
        all_set (Fits {T = T} (x ∷ []) h.0 h.1 (contents x)) views port w
            ((λ t. ((mine.0 t).0, Keeps-refl (contents x))), λ f. absurd (true≢false (sym f)))
            (λ j u other e. (
              (λ t.
                  let old = (h.4 j u e).0 t in (
                    old.0,
                    ⊎_elim (λ (m : v.writes ≡ true). absurd (other (old.0 ∙ sym (mine.0 m).0)))
                        (λ (k : Keeps v.known (contents x)). Keeps-trans u.known h.2 (contents x) old.1 (subst (λ (z : Option (List ℕ)). Keeps z (contents x)) held.1 k)) may,
                  )),
              λ t. absurd (other (((h.4 j u e).1 t).0 ∙ sym held.0)),
            )),
      ) in
      (w, subst New (sym held.2) at_empty, refl)

  pub gives_back : (n port : ℕ) (v : HalfView) (x : T) → v.holds ≡ true → (v.writes ≡ true) ⊎ Keeps v.known (contents x) → Pushes (IsShared contents) n port v x (λ w. w ≡ view_of v.writes false false (contents x))
  gives_back n port v x = back n port v x false

  pub gives_back_written_out : (waiting : T → List ℕ) (n port : ℕ) (v : HalfView) (x : T) → v.holds ≡ true → (v.writes ≡ true) ⊎ Keeps v.known (contents x) → waiting x ≡ [] → Pushes (IsShared contents) n port v x (λ w. (w ≡ view_of v.writes false true (contents x)) × (waiting x ≡ []))
  gives_back_written_out waiting n port v x holding may none items views capacity h at =
      let put = back n port v x true holding may items views capacity h at in
      (put.0, put.1, (put.2, none))

  pub forks : (port : ℕ) (v : HalfView) → Forks (IsShared contents) port v v (view_of false false false None)
  forks port v items views h at =
      let r : HalfView = view_of false false false None in
      let vs : List HalfView = set views port v in
      let F : ℕ → HalfView → Type 0 = Fits items h.0 h.1 h.2 in
      let old : All F vs = all_set F views port v (h.4 port v at) (λ j u other e. h.4 j u e) in
      (h.0, h.1, h.2, h.3, λ j u e. ⊎_elim (old j u) (λ (is : r ≡ u). subst (λ (z : HalfView). F j z) is ((λ f. absurd (true≢false (sym f))), λ f. absurd (true≢false (sym f)))) (at_snoc vs r u j e))
