-- Which messages below a chain of levels expire, when, and which a Sweep leaves.
use Rattle.std.proofs.Common.{◌≡◌, ℕ, ◌+◌, ◌≤◌, Bool, true, false, List, [], ◌∷◌, ◌++◌, length, refl, ap, ◌∙◌, arith, length-append, min}
use Rattle.std.specs.List.{filter}
use Rattle.std.proofs.lemmas.List.Elements.{filter-append}
use Rattle.rs_tree_bucket.specs.Chains.{under_all}
use Rattle.rs_tree_bucket.specs.Spots.{Spot, under}
use Rattle.rs_tree_branch.specs.Spots.{pairs}
use Rattle.rs_tree_bucket.specs.Sweeping.{is_expired_spot, spot_stays}
use Rattle.rs_store.proofs.Maps.{filter_few}
use Rattle.rs_tree_bucket.specs.Expiring.{earliest}
use Rattle.rs_store.specs.Expiring.{ends_at, first_end}

pub earliest_both : (bound : ℕ) (xs ys : List Spot) → earliest bound (xs ++ ys) ≡ earliest (earliest bound xs) ys
earliest_both bound [] ys = refl
earliest_both bound (x ∷ xs) ys = earliest_both (min bound (ends_at x.1.message)) xs ys

earliest_under : (bound : ℕ) (k : List ℕ) (ss : List Spot) → earliest bound (under k ss) ≡ earliest bound ss
earliest_under bound k [] = refl
earliest_under bound k (s ∷ ss) = earliest_under (min bound (ends_at s.1.message)) k ss

pub earliest_chain : (bound : ℕ) (ks : List (List ℕ)) (ss : List Spot) → earliest bound (under_all ks ss) ≡ earliest bound ss
earliest_chain bound [] ss = refl
earliest_chain bound (k ∷ ks) ss = earliest_under bound k (under_all ks ss) ∙ earliest_chain bound ks ss

-- of a branch's messages, without their paths
pub pairs_end : (bound : ℕ) (ss : List Spot) → earliest bound ss ≡ first_end bound (pairs ss)
pairs_end bound [] = refl
pairs_end bound (s ∷ ss) = pairs_end (min bound (ends_at s.1.message)) ss

pub swept_under : (moment : ℕ) (k : List ℕ) (ss : List Spot) → filter (spot_stays moment) (under k ss) ≡ under k (filter (spot_stays moment) ss)
swept_under moment k [] = refl
swept_under moment k (s ∷ ss) = at (spot_stays moment s) refl (swept_under moment k ss)
  where
    at : (b : Bool) → spot_stays moment s ≡ b → filter (spot_stays moment) (under k ss) ≡ under k (filter (spot_stays moment) ss)
        → filter (spot_stays moment) (under k (s ∷ ss)) ≡ under k (filter (spot_stays moment) (s ∷ ss))
    at true is more = rw (is, more) refl
    at false is more = rw (is, more) refl

pub swept_chain : (moment : ℕ) (ks : List (List ℕ)) (ss : List Spot) → filter (spot_stays moment) (under_all ks ss) ≡ under_all ks (filter (spot_stays moment) ss)
swept_chain moment [] ss = refl
swept_chain moment (k ∷ ks) ss = swept_under moment k (under_all ks ss) ∙ ap (λ w. under k w) (swept_chain moment ks ss)

gone_under : (now : ℕ) (k : List ℕ) (ss : List Spot) → length (filter (is_expired_spot now) (under k ss)) ≡ length (filter (is_expired_spot now) ss)
gone_under now k [] = refl
gone_under now k (s ∷ ss) = at (is_expired_spot now s) refl (gone_under now k ss)
  where
    at : (b : Bool) → is_expired_spot now s ≡ b → length (filter (is_expired_spot now) (under k ss)) ≡ length (filter (is_expired_spot now) ss)
        → length (filter (is_expired_spot now) (under k (s ∷ ss))) ≡ length (filter (is_expired_spot now) (s ∷ ss))
    at true is more = rw is (omega (arith, more))
    at false is more = rw is more

many_under : (k : List ℕ) (ss : List Spot) → length (under k ss) ≡ length ss
many_under k [] = refl
many_under k (s ∷ ss) = omega (arith, many_under k ss)

pub gone_chain : (now : ℕ) (ks : List (List ℕ)) (ss : List Spot) → length (filter (is_expired_spot now) (under_all ks ss)) ≡ length (filter (is_expired_spot now) ss)
gone_chain now [] ss = refl
gone_chain now (k ∷ ks) ss = gone_under now k (under_all ks ss) ∙ gone_chain now ks ss

pub many_chain : (ks : List (List ℕ)) (ss : List Spot) → length (under_all ks ss) ≡ length ss
many_chain [] ss = refl
many_chain (k ∷ ks) ss = many_under k (under_all ks ss) ∙ many_chain ks ss

pub gone_both : (now : ℕ) (xs ys : List Spot) → length (filter (is_expired_spot now) (xs ++ ys)) ≡ length (filter (is_expired_spot now) xs) + length (filter (is_expired_spot now) ys)
gone_both now xs ys = ap length (filter-append (is_expired_spot now) xs ys) ∙ length-append (filter (is_expired_spot now) xs) (filter (is_expired_spot now) ys)

pub gone_few : (now : ℕ) (ss : List Spot) → length (filter (is_expired_spot now) ss) ≤ length ss
gone_few now ss = filter_few (is_expired_spot now) ss
