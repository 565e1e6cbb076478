-- How the messages of a bucket change when one goes.
use Rattle.std.proofs.Common.{◌≡◌, ◌≢◌, Bool, true, false, not, List, [], ◌∷◌, length, refl, sym, ap, arith, Option, Some, None, is_some, Bor}
use Rattle.std.specs.Option.{option_copied}
use Rattle.std.specs.Map.{remove_entry}
use Rattle.std.specs.BTreeMap.{is_at}
use Rattle.std.specs.declared.cmp.Ordering.{Ordering}
use Rattle.std.specs.declared.cmp.Ordering.TheVariants.{Less, Equal, Greater}
use Rattle.rs_topic.specs.Order.{path_cmp}
use Rattle.rs_message.specs.declared.found.Found.{Found}
use Rattle.rs_tree_bucket.specs.Spots.{IsFull, found_at, is_there}
use Rattle.rs_tree_bucket.specs.Buckets.{spots_in}
use Rattle.rs_tree_bucket.specs.declared.leaf.Leaf.{Leaf}
use Rattle.rs_tree_bucket.proofs.Spots.{Spots, Path}

pub length_leaves : (ls : List Leaf) → length ls ≡ length (spots_in ls)
length_leaves [] = refl
length_leaves (l ∷ ls) = omega (arith, length_leaves ls)

-- as the calls say it: r is what `find` answered
pub found_there : (p : Path) (w : Spots) (r : Option (Bor Found)) (b : Bool) → option_copied r ≡ found_at p w → is_some r ≡ not b → b ≡ false → is_there p w ≡ true
found_there p w None b h some missing = absurd (let e : false ≡ true = (rw missing at some) in cc (e))
found_there p w (Some x) b h some missing = ap is_some (sym h)

pub single_cleared : (p : Path) (w : Spots) → length w ≡ 1 → is_there p w ≡ true → remove_entry (is_at (path_cmp p)) w ≡ []
single_cleared p [] n there = absurd (omega (arith, n))
single_cleared p (s ∷ []) n there = at (path_cmp p s.0) refl
  where
    at : (o : Ordering) → path_cmp p s.0 ≡ o → remove_entry (is_at (path_cmp p)) (s ∷ []) ≡ []
    at Less is = absurd (let e : false ≡ true = (rw is at there) in cc (e))
    at Equal is = rw is refl
    at Greater is = absurd (let e : false ≡ true = (rw is at there) in cc (e))
single_cleared p (s ∷ t ∷ w) n there = absurd (omega (arith, n))

pub more_cleared : (p : Path) (w : Spots) → length w ≢ 1 → is_there p w ≡ true → IsFull (remove_entry (is_at (path_cmp p)) w)
more_cleared p [] n there = absurd (cc (there))
more_cleared p (s ∷ []) n there = absurd (n (omega arith))
more_cleared p (s ∷ t ∷ w) n there = at (path_cmp p s.0) refl
  where
    at : (o : Ordering) → path_cmp p s.0 ≡ o → IsFull (remove_entry (is_at (path_cmp p)) (s ∷ t ∷ w))
    at Less is = rw is tt
    at Equal is = rw is tt
    at Greater is = rw is tt
