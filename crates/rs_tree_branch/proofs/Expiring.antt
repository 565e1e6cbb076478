-- When messages of a branch expire, child by child.
use Rattle.std.proofs.Common.{◌≡◌, ℕ, suc, ◌+◌, ◌<◌, ◌≤◌, List, [], ◌++◌, length, get_or, drop, sym, ap, ◌∙◌, add-one, length-append}
use Rattle.std.proofs.lemmas.List.{drop_all}
use Rattle.std.specs.List.{filter}
use Rattle.rs_tree_bucket.specs.Expiring.{earliest}
use Rattle.rs_tree_bucket.specs.Sweeping.{is_expired_spot}
use Rattle.rs_tree_branch.proofs.Ends.{earliest_both, gone_both}
use Rattle.rs_tree_branch.specs.Chunks.{parts}
use Rattle.rs_tree_branch.specs.Values.{ChildValue}
use Rattle.rs_tree_bucket.proofs.Spots.{Spots}
use Rattle.rs_tree_branch.proofs.Chunks.{parts_at}

module _ (cs : List ChildValue) (i : ℕ) (c : ChildValue) (small : i < length cs) (is : c ≡ get_or cs i c) where
  pub child_at : parts (drop i cs) ≡ c.spots ++ parts (drop (i + 1) cs)
  child_at = parts_at cs i c small ∙ (ap (λ (w : ChildValue). w.spots ++ parts (drop (suc i) cs)) (sym is) ∙ ap (λ (n : ℕ). c.spots ++ parts (drop n cs)) (sym (add-one i)))

  pub earliest_step : (before after all : ℕ) → after ≡ earliest before c.spots → earliest before (parts (drop i cs)) ≡ all → earliest after (parts (drop (i + 1) cs)) ≡ all
  earliest_step before after all h so = ap (λ (b : ℕ). earliest b (parts (drop (i + 1) cs))) h ∙ (sym (ap (earliest before) child_at ∙ earliest_both before c.spots (parts (drop (i + 1) cs))) ∙ so)

  pub gone_step : (now : ℕ) → length (filter (is_expired_spot now) (parts (drop i cs))) ≡ length (filter (is_expired_spot now) c.spots) + length (filter (is_expired_spot now) (parts (drop (i + 1) cs)))
  gone_step now = ap (λ (w : Spots). length (filter (is_expired_spot now) w)) child_at ∙ gone_both now c.spots (parts (drop (i + 1) cs))

  pub many_step : length (parts (drop i cs)) ≡ length c.spots + length (parts (drop (i + 1) cs))
  many_step = ap length child_at ∙ length-append c.spots (parts (drop (i + 1) cs))

pub none_left : (cs : List ChildValue) (i : ℕ) → length cs ≤ i → parts (drop i cs) ≡ []
none_left cs i all = ap parts (drop_all i cs all)
