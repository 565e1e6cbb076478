use Rattle.std.proofs.Common.{◌≡◌, ◌≢◌, true, length, ◌∙◌, sym, refl, subst}
use Rattle.rs_topic.specs.Rests.{levels_from}
use Rattle.rs_tree_bucket.specs.Spots.{IsFull, is_there}
use Rattle.rs_tree_bucket.proofs.Clearing.{found_there, more_cleared, single_cleared}
use Rattle.rs_tree_bucket.proofs.Spots.{Spots}
use Rattle.rs_tree_bucket.proofs.leaves.Leaves.clear_more.Goals as goal

pub returns-then-len-eq1 : goal.returns-then-len-eq1
returns-then-len-eq1 c =
    let there : is_there (levels_from c.args.at c.args.topic.now) c.args.self.now ≡ true = found_there (levels_from c.args.at c.args.topic.now) c.args.self.now c.find.result c.is_none.result c.find.ensures c.is_none.ensures c.if-is_none.false in
    (there, single_cleared (levels_from c.args.at c.args.topic.now) c.args.self.now (sym c.len.ensures ∙ c.if-len-eq1.true) there, refl)

pub returns : goal.returns
returns c =
    let there : is_there (levels_from c.args.at c.args.topic.now) c.args.self.now ≡ true = found_there (levels_from c.args.at c.args.topic.now) c.args.self.now c.find.result c.is_none.result c.find.ensures c.is_none.ensures c.if-is_none.false in
    let more : length c.args.self.now ≢ 1 = (λ h. c.if-len-eq1.false (c.len.ensures ∙ h)) in
    let P : Spots → Type 0 = λ w. IsFull w in
    (there, c.clear.ensures.done, subst P (sym c.clear.ensures.done) (more_cleared (levels_from c.args.at c.args.topic.now) c.args.self.now more there))
