use Rattle.std.proofs.Common.{◌≡◌, ◌+◌, ◌≤◌, true, false, refl, sym, ap, ◌∙◌, arith}
use Rattle.rs_tree_bucket.specs.Chosen.{chosen}
use Rattle.rs_tree_branch.specs.Chosen.{is_plain_below}
use Rattle.rs_topic.specs.Rests.{levels_from}
use Rattle.rs_tree_branch.specs.Chunks.{depth}
use Rattle.rs_tree_branch.specs.Values.{BranchValue}
use Rattle.rs_topic.specs.Matching.{begins_with_dollar}
use Rattle.rs_tree_bucket.specs.Answers.{Gives}
use Rattle.rs_tree_branch.specs.Nodes.{spots_of}
use Rattle.rs_tree_branch.proofs.Choosing.{dollar_below, gives_none, gives_same, own_plain, plain_below, so_far_end, so_far_more, so_far_stop, steps_in}
use Rattle.rs_tree_branch.proofs.Chunks.{deep_child}
use Rattle.rs_tree_branch.proofs.branch.+answer_plain.Goals as goal

pub answers::answer_plain-loop-child-init : goal.answers::answer_plain-loop-child-init
answers::answer_plain-loop-child-init t c = (refl, refl)

pub answers::answer_plain-loop-child-preserved : goal.answers::answer_plain-loop-child-preserved
answers::answer_plain-loop-child-preserved t c =
    so_far_more (is_plain_below (levels_from c.args.next c.args.filter.now)) c.args.now c.args.answer.now c.loop-child.answer c.answer_plain.new.answer c.args.children.now c.loop-child.child-index c.child-item.result (omega arith) c.child-item.is c.loop-child.invariant c.in-Ok.ensures

pub answers::answer_plain-answer_plain-requires : goal.answers::answer_plain-answer_plain-requires
answers::answer_plain-answer_plain-requires t c =
    let deep : c.child-item.result.depth + 1 ≤ depth c.args.children.now = deep_child c.args.children.now c.loop-child.child-index c.child-item.result (omega arith) c.child-item.is in
    (omega arith, c.requires)

pub answers::answer_plain-returns-in-Err : goal.answers::answer_plain-returns-in-Err
answers::answer_plain-returns-in-Err t c =
    so_far_stop (is_plain_below (levels_from c.args.next c.args.filter.now)) c.args.now c.args.answer.now c.loop-child.answer c.answer_plain.new.answer c.args.children.now c.loop-child.child-index c.child-item.result c.in-Err.stop (omega arith) c.child-item.is c.loop-child.invariant c.in-Err.ensures

pub answers::answer_plain-returns : goal.answers::answer_plain-returns
answers::answer_plain-returns t c = so_far_end (is_plain_below (levels_from c.args.next c.args.filter.now)) c.args.now c.args.answer.now c.loop-child.answer c.loop-child.answer c.args.children.now c.loop-child.child-index (omega arith) c.loop-child.invariant

pub Branch::answer_plain-returns : goal.Branch::answer_plain-returns
Branch::answer_plain-returns t c =
    let rest = levels_from c.args.next c.args.filter.now in
    let es = c.self.inside.children.items in
    rw (← c.self.view_is) (gives_same c.answer_plain.result c.args.answer.now c.answer_plain.new.answer _ _ (own_plain rest c.self.inside.retained es c.args.now) (rw c.as_slice.ensures.value at c.answer_plain.ensures))

pub Branch::answer_plain-answer_plain-requires : goal.Branch::answer_plain-answer_plain-requires
Branch::answer_plain-answer_plain-requires t c =
    let whole : depth c.self.inside.children.items ≡ c.args.self.now.depth = ap (λ (v : BranchValue). v.depth) c.self.view_is in
    let same : depth c.as_slice.result.now ≡ depth c.self.inside.children.items = ap depth c.as_slice.ensures.value in
    (omega arith, c.requires)

pub Child::answer_plain-answer-requires : goal.Child::answer_plain-answer-requires
Child::answer_plain-answer-requires t c = steps_in c.args.self.now (levels_from c.args.at c.args.filter.now) (levels_from c.args.next c.args.filter.now) c.requires

pub Child::answer_plain-returns : goal.Child::answer_plain-returns
Child::answer_plain-returns t c =
    let pattern = levels_from c.args.at c.args.filter.now in
    let rest = levels_from c.args.next c.args.filter.now in
    let plain : begins_with_dollar c.self.inside.level ≡ false = rw c.as_slice.ensures at (sym c.begins_with_dollar.ensures.value ∙ c.if-begins_with_dollar.false) in
    let gives : Gives c.answer.result c.args.answer.now c.answer.new.answer (chosen pattern c.args.now (spots_of c.self.inside.level c.self.inside.below)) = rw (← c.self.view_is) at c.answer.ensures in
    rw (← c.self.view_is) (gives_same c.answer.result c.args.answer.now c.answer.new.answer _ _ (plain_below pattern rest c.args.now c.self.inside.level c.self.inside.below c.in_default.not-Chunk c.requires plain) gives)

pub Child::answer_plain-returns-then-begins_with_dollar : goal.Child::answer_plain-returns-then-begins_with_dollar
Child::answer_plain-returns-then-begins_with_dollar t c =
    let rest = levels_from c.args.next c.args.filter.now in
    let dollar : begins_with_dollar c.self.inside.level ≡ true = rw c.as_slice.ensures at (sym c.begins_with_dollar.ensures.value ∙ c.if-begins_with_dollar.true) in
    rw (← c.self.view_is) (gives_none c.args.answer.now _ (dollar_below rest c.args.now c.self.inside.level c.self.inside.below c.in_default.not-Chunk dollar))
