-- How many bytes the messages of a branch count, child by child.
use Rattle.std.proofs.Common.{◌≡◌, ℕ, suc, ◌+◌, ◌<◌, ◌≤◌, List, [], ◌∷◌, ◌++◌, length, get_or, drop, refl, sym, ap, ◌∙◌, arith}
use Rattle.rs_tree_bucket.specs.Chains.{under_all}
use Rattle.rs_tree_bucket.specs.Spots.{Spot, under}
use Rattle.rs_tree_bucket.specs.Weights.{found_bytes, weight}
use Rattle.rs_tree_bucket.proofs.Spots.{Spots}
use Rattle.rs_store.specs.Bytes.{retained_bytes}
use Rattle.rs_store.proofs.Bytes.{bytes_more, bytes_none}
use Rattle.rs_tree_branch.specs.Chunks.{parts}
use Rattle.rs_tree_branch.specs.Spots.{pair_of, pairs}
use Rattle.rs_tree_branch.specs.Values.{ChildValue}
use Rattle.rs_tree_branch.proofs.Expiring.{child_at, none_left}

pub weight_both : (xs ys : List Spot) → weight (xs ++ ys) ≡ weight xs + weight ys
weight_both [] ys = omega arith
weight_both (x ∷ xs) ys = omega (arith, weight_both xs ys)

weight_under : (k : List ℕ) (ss : List Spot) → weight (under k ss) ≡ weight ss
weight_under k [] = refl
weight_under k (s ∷ ss) = ap (λ (n : ℕ). found_bytes s.1 + n) (weight_under k ss)

pub weight_chain : (ks : List (List ℕ)) (ss : List Spot) → weight (under_all ks ss) ≡ weight ss
weight_chain [] ss = refl
weight_chain (k ∷ ks) ss = weight_under k (under_all ks ss) ∙ weight_chain ks ss

pub weight_step : (cs : List ChildValue) (i : ℕ) (c : ChildValue) → i < length cs → c ≡ get_or cs i c → weight (parts (drop i cs)) ≡ weight c.spots + weight (parts (drop (i + 1) cs))
weight_step cs i c small is = ap weight (child_at cs i c small is) ∙ weight_both c.spots (parts (drop (i + 1) cs))

pub weight_none : (cs : List ChildValue) (i : ℕ) → length cs ≤ i → weight (parts (drop i cs)) ≡ 0
weight_none cs i all = ap weight (none_left cs i all)

-- of a branch's messages, without their paths
pub pairs_weight : (ss : List Spot) → weight ss ≡ retained_bytes (pairs ss)
pairs_weight [] = sym bytes_none
pairs_weight (s ∷ ss) = omega (arith, pairs_weight ss, bytes_more (pair_of s) (pairs ss))
