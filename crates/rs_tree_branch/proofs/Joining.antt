-- A message whose path is the chain above it.
use Rattle.std.proofs.Common.{◌≡◌, ℕ, [], ◌∷◌, ◌++◌, refl, sym, ap, ◌∙◌, Some, append-nil}
use Rattle.rs_tree_bucket.specs.Chains.{under_all, behind}
use Rattle.rs_message.specs.declared.found.Found.{Found}
use Rattle.rs_topic.specs.Rests.{levels_from}
use Rattle.rs_tree_bucket.specs.Spots.{spot_of, under}
use Rattle.rs_tree_bucket.proofs.Spots.{Spots, Path}
use Rattle.rs_tree_bucket.proofs.Chains.{behind_is}

lone_spots : (ks : Path) (f : Found) → (ks, f) ∷ [] ≡ under_all ks (([], f) ∷ [])
lone_spots [] f = refl
lone_spots (k ∷ ks) f = ap (under k) (lone_spots ks f)

-- a message whose path is the chain
pub lone : (ks : Path) (at : ℕ) (f g : Found) (r : Path) (new : Spots) → Some r ≡ behind ks (levels_from at f.topic) → r ≡ [] → g ≡ f → new ≡ spot_of at g ∷ [] → new ≡ under_all ks (([], f) ∷ [])
lone ks at f g r new h e same is =
    let path : levels_from at f.topic ≡ ks = behind_is ks (levels_from at f.topic) r (sym h) ∙ (ap (λ (p : Path). ks ++ p) e ∙ append-nil ks) in
    let spot : spot_of at g ≡ spot_of at f = ap (λ (x : Found). spot_of at x) same in
    is ∙ (ap (λ s. s ∷ []) spot ∙ (ap (λ (p : Path). (p, f) ∷ []) path ∙ lone_spots ks f))
