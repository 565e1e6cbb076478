-- Chunks whose children stand in their place.
use Rattle.std.proofs.Common.{◌≡◌, ◌≢◌, ℕ, ◌+◌, ◌<◌, ◌≤◌, List, [], ◌∷◌, ◌++◌, length, get_or, take, sym, ap, subst, ◌∙◌, append_assoc}
use Rattle.std.proofs.lemmas.List.{take_more}
use Rattle.std.specs.declared.cmp.Ordering.TheVariants.{Less}
use Rattle.rs_tree_branch.specs.Chunks.{IsChunk, IsUpTo, parts}
use Rattle.rs_tree_branch.specs.Values.{ChildValue}
use Rattle.rs_tree_branch.proofs.Dividing.{up_to_both, up_to_wider}
use Rattle.rs_tree_branch.proofs.Leaving.{parts_push, take_whole, up_to_at}
use Rattle.rs_tree_branch.proofs.Chunks.{level_not}
use Rattle.rs_tree_bucket.proofs.Spots.{Spots}
use Rattle.rs_tree_branch.proofs.Under.{level_cmp}

-- what stands before a level, and the children before one that is not before the level, stand before that child
pub before_child : (level : List ℕ) (w : Spots) (flat cs : List ChildValue) (i : ℕ) (c : ChildValue) → i < length cs → c ≡ get_or cs i c → IsChunk cs → IsUpTo level w → level_cmp c.level level ≢ Less
    → parts flat ≡ w ++ parts (take i cs) → IsUpTo c.level (parts flat)
before_child level w flat cs i c small is r before not so =
    let P : Spots → Type 0 = λ v. IsUpTo c.level v in
    subst P (sym so) (up_to_both c.level w (parts (take i cs)) (up_to_wider level c.level w (level_not c.level level [] not) before) (up_to_at cs i c small is r))

pub flat_more : (w : Spots) (flat new cs : List ChildValue) (i : ℕ) (c : ChildValue) → i < length cs → c ≡ get_or cs i c → parts flat ≡ w ++ parts (take i cs) → parts new ≡ parts flat ++ c.spots
    → parts new ≡ w ++ parts (take (i + 1) cs)
flat_more w flat new cs i c small is so more =
    let taken : parts (take (i + 1) cs) ≡ parts (take i cs) ++ c.spots = ap parts (take_more cs i c small ∙ ap (λ (x : ChildValue). take i cs ++ x ∷ []) (sym is)) ∙ parts_push (take i cs) c in
    more ∙ (ap (λ (v : Spots). v ++ c.spots) so ∙ (append_assoc w (parts (take i cs)) c.spots ∙ ap (λ (v : Spots). w ++ v) (sym taken)))

pub flat_end : (w : Spots) (flat cs : List ChildValue) (i : ℕ) → length cs ≤ i → parts flat ≡ w ++ parts (take i cs) → parts flat ≡ w ++ parts cs
flat_end w flat cs i all so = so ∙ ap (λ (l : List ChildValue). w ++ parts l) (take_whole cs i all)
