use Rattle.std.proofs.Common.{◌≡◌, ℕ, List, [], ◌∷◌, ◌++◌, sym, ◌∙◌}
use Rattle.rs_message.specs.declared.found.Found.{Found}
use Rattle.rs_tree_bucket.specs.Chains.{under_all}
use Rattle.rs_topic.specs.Rests.{levels_from}
use Rattle.rs_tree_bucket.specs.Spots.{spot_of, under}
use Rattle.rs_tree_bucket.proofs.Chains.{under_one}
use Rattle.rs_tree_bucket.proofs.Spots.{Spots, Path}
use Rattle.rs_tree_bucket.proofs.bucket.Bucket.copy_prefixed.Goals as goal

risen_one : (ks : Path) (k : List ℕ) (at higher : ℕ) (f g h : Found) (new : Spots) → g ≡ f → h ≡ g → levels_from higher g.topic ≡ ks ++ k ∷ levels_from at g.topic → new ≡ spot_of higher h ∷ [] → new ≡ under_all ks (under k (spot_of at f ∷ []))
risen_one ks k at higher f g h new same found path is =
    let there : levels_from higher f.topic ≡ ks ++ k ∷ levels_from at f.topic = rw same at path in
    is ∙ rw (found, same, there) (sym (under_one ks (k ∷ levels_from at f.topic) f))

pub returns-in_ok-higher-in-One : goal.returns-in_ok-higher-in-One
returns-in_ok-higher-in-One c =
    rw (← c.self.view_is, c.in-One.is) (risen_one (levels_from 1 c.args.chain.now) c.args.level.now c.in-One.at c.rise.new.self.at c.in-One.found c.in_ok-copy-in-One.field-0 c.rise.new.self.found c.in_ok-higher-in-One.higher
    c.in_ok-copy-in-One.ensures c.rise.ensures.same (c.rise.ensures.done c.if-not-rise.false) c.in_ok-higher-in-One.ensures)
