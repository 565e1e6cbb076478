-- A stem that is made of the messages of a bucket, one after the other.
use Rattle.std.proofs.Common.{◌≡◌, ℕ, ◌+◌, ◌<◌, List, [], ◌∷◌, ◌++◌, length, get_or, drop, refl, sym, ap, ◌∙◌, Some}
use Rattle.std.specs.BTreeMap.{insert_entry}
use Rattle.rs_message.specs.declared.found.Found.{Found}
use Rattle.rs_topic.specs.Order.{path_cmp}
use Rattle.rs_topic.specs.Rests.{levels_from}
use Rattle.rs_topic.specs.TopicOrder.{path_total}
use Rattle.rs_store.proofs.Maps.{insert_next}
use Rattle.rs_tree_bucket.specs.Buckets.{spots_in}
use Rattle.rs_tree_bucket.specs.Chains.{behind, under_all}
use Rattle.rs_tree_bucket.specs.Spots.{spot_of}
use Rattle.rs_tree_bucket.specs.declared.leaf.Leaf.{Leaf}
use Rattle.rs_tree_bucket.proofs.Buckets.{Sorted, next_leaf, none_below, path_of}
use Rattle.rs_tree_bucket.proofs.Chains.{behind_is}
use Rattle.rs_tree_bucket.proofs.Spots.{Spots, Path}
use Rattle.rs_tree_branch.proofs.Stems.{insert_all}

pub sorted_at : (ls : List Leaf) (w : Spots) → spots_in ls ≡ w → Sorted w → Sorted (spots_in ls)
sorted_at ls w is s = rw is s

pub stem_none : (ks : Path) (b : Spots) (ls : List Leaf) → b ≡ [] → under_all ks b ++ spots_in (drop 0 ls) ≡ spots_in ls
stem_none ks b ls h = rw (h, none_below ks) refl

module _ (l : Leaf) (left rest : List Leaf) (is : left ≡ l ∷ rest) where
  -- a leaf that is put into a branch below a chain, behind those that came before it
  pub part_step : (ks q : Path) (f : Found) (b new : Spots) (all : Spots) → Sorted all → path_of l ≡ ks ++ q → f ≡ l.found → new ≡ insert_entry path_cmp b q f
      → under_all ks b ++ spots_in left ≡ all → under_all ks new ++ spots_in rest ≡ all
  part_step ks q f b new all s path copy put so =
      let whole : under_all ks b ++ spot_of l.at l.found ∷ spots_in rest ≡ all = ap (λ (w : List Leaf). under_all ks b ++ spots_in w) (sym is) ∙ so in
      let one : under_all ks new ≡ insert_entry path_cmp (under_all ks b) (path_of l) l.found = rw (put, copy, path) (sym (insert_all ks q l.found b)) in
      ap (λ (w : Spots). w ++ spots_in rest) one ∙ insert_next path_cmp path_total (under_all ks b) (spots_in rest) all (path_of l) l.found whole s

-- one step of the loop, as the goals say it
module _ (ls : List Leaf) (i : ℕ) (l : Leaf) (small : i < length ls) (is : l ≡ get_or ls i l) where
  pub stem_step : (chain view t : List ℕ) (next : ℕ) (f : Found) (b new : Spots) → view ≡ chain → t ≡ l.found.topic → Some (levels_from next t) ≡ behind (levels_from 1 view) (levels_from l.at t) → f ≡ l.found
      → new ≡ insert_entry path_cmp b (levels_from next f.topic) f → Sorted (spots_in ls) → under_all (levels_from 1 chain) b ++ spots_in (drop i ls) ≡ spots_in ls → under_all (levels_from 1 chain) new ++ spots_in (drop (i + 1) ls) ≡ spots_in ls
  stem_step chain view t next f b new same topic there copy put s so =
      let on : Some (levels_from next l.found.topic) ≡ behind (levels_from 1 chain) (path_of l) = rw (same, topic) at there in
      let path : path_of l ≡ levels_from 1 chain ++ levels_from next l.found.topic = behind_is (levels_from 1 chain) (path_of l) (levels_from next l.found.topic) (sym on) in
      part_step l (drop i ls) (drop (i + 1) ls) (next_leaf ls i l small is) (levels_from 1 chain) (levels_from next l.found.topic) f b new (spots_in ls) s path copy (put ∙ ap (λ (g : Found). insert_entry path_cmp b (levels_from next g.topic) f) copy) so
