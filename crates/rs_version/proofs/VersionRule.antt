-- Each step keeps the rule of the published copy.
use Rattle.std.proofs.Common.{◌≡◌, ◌≢◌, ℕ, ◌≤◌, List, [], ◌∷◌, ◌++◌, length, set, Option, Some, None, refl, sym, ap, subst, ◌∙◌, ⊎_elim, arith, fold}
use mathlib.Core.Option.{some}
use lib.ListN.{get_elem?}
use Rattle.crossbeam_utils.specs.Register.{Admits, TurnsAt, Forks, Merges}
use Rattle.atomic_table.proofs.Lists.{at_set, at_snoc}
use Rattle.rs_store.specs.Contents.{followed}
use Rattle.rs_version.specs.Catalogues.{content_of}
use Rattle.rs_store.proofs.Standing.{stands_more}
use Rattle.rs_version.specs.declared.catalogue_copy.CatalogueCopy.{CatalogueCopy}
use Rattle.rs_version.specs.declared.catalogue_copy.CopyStep.{CopyStep}
use Rattle.rs_version.specs.declared.rule.KnownVersion.{KnownVersion}
use Rattle.rs_version.specs.VersionRule.{Keeps, SeesIt, Continues, IsSound, Follows, known, state, applied}
use Rattle.rs_version.proofs.Prefixes.{prefix_self, prefix_trans}

some_is : (u w : KnownVersion) → Some u ≡ Some w → u ≡ w
some_is u w e = cc (e)

pub continues_self : (x : CatalogueCopy) → Continues (known x) x
continues_self x = (refl, refl, prefix_self x.prefix.log)

pub continues_on : (u : KnownVersion) (x y : CatalogueCopy) → Continues u x → Continues (known x) y → Continues u y
continues_on u x y p q = (q.0 ∙ p.0, q.1 ∙ p.1, prefix_trans u.prefix.log x.prefix.log y.prefix.log p.2 q.2)

pub turns : (seat : ℕ) (v : Option KnownVersion) (x y : CatalogueCopy) → (IsSound x → IsSound y × Continues (known x) y) → TurnsAt Keeps seat v x y SeesIt
turns seat v x y goes views h at =
    let g = goes h.0 in (
      Some (known y),
      (
        g.0,
        λ j u e. ⊎_elim
            (λ (t : (j ≡ seat) × (Some (known y) ≡ Some u)). subst (λ (z : KnownVersion). Continues z y) (some_is (known y) u t.1) (continues_self y))
            (λ (t : (j ≢ seat) × (get_elem? views j ≡ some (Some u))). continues_on u x y (h.1 j u t.1) g.1)
            (at_set views seat j (Some (known y)) (Some u) e),
      ),
      (refl, g.0, λ u is. continues_on u x y (h.1 seat u (at ∙ ap some is)) g.1),
    )

-- what the copies have in common goes on by at most one step
pub goes_on : (x y : CatalogueCopy) (ss : List CopyStep) → length ss ≤ 1 → ((s : CopyStep) → ss ≡ s ∷ [] → Follows x s) → state y ≡ fold applied (state x) ss → IsSound x → IsSound y × Continues (known x) y
goes_on x y [] one next is sound =
    let c : content_of y.catalogue ≡ content_of x.catalogue = ap (λ p. p.0) is in
    let b : y.prefix ≡ x.prefix = ap (λ p. p.1) is in (
      rw (c, ap (λ z. z.log) b) sound,
      (ap (λ z. z.history) b, ap (λ z. z.limit) c, rw (ap (λ z. z.log) b) (prefix_self x.prefix.log)),
    )
goes_on x y (s ∷ []) one next is sound =
    let f = next s refl in
    let c : content_of y.catalogue ≡ followed (content_of x.catalogue) s.entry = ap (λ p. p.0) is in
    let b : y.prefix ≡ s.after = ap (λ p. p.1) is in
    let log : y.prefix.log ≡ x.prefix.log ++ s.entry ∷ [] = ap (λ z. z.log) b ∙ f.3 in (
      rw (c, log) (stands_more (content_of x.catalogue) x.prefix.log s.entry sound f.0 f.1),
      (ap (λ z. z.history) b ∙ f.2, ap (λ z. z.limit) c, (s.entry ∷ [], sym log)),
    )
goes_on x y (s ∷ t ∷ ss) one next is sound = absurd (omega arith)

pub admits : Admits Keeps None
admits x views h = (h.0, λ j u e. ⊎_elim (λ t. h.1 j u t) (λ (t : None ≡ Some u). absurd (cc (t))) (at_snoc views None (Some u) j e))

pub forks : (seat : ℕ) (v : Option KnownVersion) → Forks Keeps seat v v v
forks seat v x views h at = (
  h.0,
  λ j u e. ⊎_elim
      (λ (t : get_elem? (set views seat v) j ≡ some (Some u)). ⊎_elim
      (λ (t : (j ≡ seat) × (v ≡ Some u)). h.1 seat u (at ∙ ap some t.1))
      (λ (t : (j ≢ seat) × (get_elem? views j ≡ some (Some u))). h.1 j u t.1)
      (at_set views seat j v (Some u) t))
      (λ (t : v ≡ Some u). h.1 seat u (at ∙ ap some t))
      (at_snoc (set views seat v) v (Some u) j e),
)

pub merges : (seat : ℕ) (v : Option KnownVersion) (other : ℕ) (w : Option KnownVersion) → Merges Keeps seat v other w w None
merges seat v other w x views h at apart there =
    let noted : (u : KnownVersion) → w ≡ Some u → Continues u x = λ u is. ⊎_elim
    (λ (t : (other ≡ seat) × (w ≡ w)). absurd (apart t.0))
    (λ (t : (other ≢ seat) × (get_elem? views other ≡ some w)). h.1 other u (t.1 ∙ ap some is))
    (at_set views seat other w w there) in (
      h.0,
      λ j u e. ⊎_elim
          (λ (t : (j ≡ other) × (None ≡ Some u)). absurd (cc (t.1)))
          (λ (t : (j ≢ other) × (get_elem? (set views seat w) j ≡ some (Some u))). ⊎_elim
          (λ (t : (j ≡ seat) × (w ≡ Some u)). noted u t.1)
          (λ (t : (j ≢ seat) × (get_elem? views j ≡ some (Some u))). h.1 j u t.1)
          (at_set views seat j w (Some u) t.1))
          (at_set (set views seat w) other j None (Some u) e),
    )
