use Rattle.std.proofs.Common.{◌≡◌, ◌∷◌, [], true, false, sym, ◌∙◌, Err}
use Rattle.rs_topic.specs.Matching.{fits}
use Rattle.rs_tree_bucket.specs.Chosen.{chosen_by, own_chosen}
use Rattle.rs_tree_branch.specs.Chosen.{is_plain_below}
use Rattle.rs_topic.specs.Rests.{levels_from}
use Rattle.rs_tree_branch.proofs.Chosen.{root_exact}
use Rattle.rs_tree_branch.specs.Chunks.{parts}
use Rattle.rs_tree_branch.proofs.Choosing.{gives_same, gives_stop, gives_then, hash_steps, plus_steps, root_all, root_none, root_plus}
use Rattle.rs_tree_branch.proofs.branch.Branch.answer_at_root.Goals as goal

pub returns-in_default : goal.returns-in_default
returns-in_default c =
    rw (← c.self.view_is) (gives_same c.answer_retained.result c.args.answer.now c.answer_retained.new.answer _ _ (root_none (levels_from 0 c.args.filter.now) c.args.now c.self.inside.retained c.self.inside.children.items c.self.invariant c.in_default.ensures.ended) c.answer_retained.ensures)

pub returns-in-Err : goal.returns-in-Err
returns-in-Err c =
    let filter = c.args.filter.now in
    let more = levels_from c.in-Some.next filter in
    let ends : fits (c.in-Some.level.now ∷ more) [] ≡ true = sym c.is_all_below.ensures ∙ c.if-is_all_below.true in
    let es = c.self.inside.children.items in
    rw (← c.self.view_is) (gives_same {T = Unit {0}} (Err c.in-Err.stop) c.args.answer.now c.answer_retained-then-is_all_below.new.answer _ _ (root_all (levels_from 0 filter) c.in-Some.level.now more c.args.now c.self.inside.retained es c.self.invariant c.in-Some.ensures.more ends)
    (gives_stop c.in-Err.stop c.args.answer.now c.answer_retained-then-is_all_below.new.answer (own_chosen c.args.now c.self.inside.retained) (chosen_by (is_plain_below (levels_from 0 filter)) c.args.now (parts es)) c.in-Err.ensures))

pub answer_plain-requires : goal.answer_plain-requires
answer_plain-requires c =
    let filter = c.args.filter.now in
    let more = levels_from c.in-Some.next filter in
    let ends : fits (c.in-Some.level.now ∷ more) [] ≡ true = sym c.is_all_below.ensures ∙ c.if-is_all_below.true in
    let es = c.self.inside.children.items in
    hash_steps (levels_from 0 filter) c.in-Some.level.now more c.in-Some.ensures.more ends

pub answer_plain-requires-then-is_plus : goal.answer_plain-requires-then-is_plus
answer_plain-requires-then-is_plus c =
    let filter = c.args.filter.now in
    let more = levels_from c.in-Some.next filter in
    let ends : fits (c.in-Some.level.now ∷ more) [] ≡ false = sym c.is_all_below.ensures ∙ c.if-is_all_below.false in
    let es = c.self.inside.children.items in
    plus_steps (levels_from 0 filter) c.in-Some.level.now more c.in-Some.ensures.more ends (sym c.is_plus.ensures ∙ c.if-is_plus.true)

pub returns-then-is_all_below : goal.returns-then-is_all_below
returns-then-is_all_below c =
    let filter = c.args.filter.now in
    let more = levels_from c.in-Some.next filter in
    let ends : fits (c.in-Some.level.now ∷ more) [] ≡ true = sym c.is_all_below.ensures ∙ c.if-is_all_below.true in
    let es = c.self.inside.children.items in
    rw (← c.self.view_is) (gives_same c.answer_plain.result c.args.answer.now c.answer_plain.new.answer _ _ (root_all (levels_from 0 filter) c.in-Some.level.now more c.args.now c.self.inside.retained es c.self.invariant c.in-Some.ensures.more ends)
    (gives_then c.answer_plain.result c.args.answer.now c.answer_retained-then-is_all_below.new.answer c.answer_plain.new.answer (own_chosen c.args.now c.self.inside.retained) (chosen_by (is_plain_below (levels_from 0 filter)) c.args.now (parts es)) c.in_default-answer_retained.ensures.0 c.in_default-answer_retained.ensures.1
    (rw c.as_slice.ensures.value at c.answer_plain.ensures)))

pub returns-then-is_plus : goal.returns-then-is_plus
returns-then-is_plus c =
    let filter = c.args.filter.now in
    let more = levels_from c.in-Some.next filter in
    let ends : fits (c.in-Some.level.now ∷ more) [] ≡ false = sym c.is_all_below.ensures ∙ c.if-is_all_below.false in
    let es = c.self.inside.children.items in
    rw (← c.self.view_is) (gives_same c.answer_plain-then-is_plus.result c.args.answer.now c.answer_plain-then-is_plus.new.answer _ _ (root_plus (levels_from 0 filter) c.in-Some.level.now more c.args.now c.self.inside.retained es c.self.invariant c.in-Some.ensures.more ends (sym c.is_plus.ensures ∙ c.if-is_plus.true))
    (rw c.as_slice-then-is_plus.ensures.value at c.answer_plain-then-is_plus.ensures))

pub returns : goal.returns
returns c =
    let filter = c.args.filter.now in
    let whole = root_exact (levels_from 0 filter) c.in-Some.level.now (levels_from c.in-Some.next filter) c.args.now c.args.self.now.spots c.in-Some.ensures.more (sym c.is_all_below.ensures ∙ c.if-is_all_below.false) (sym c.is_plus.ensures ∙ c.if-is_plus.false) in
    gives_same c.answer.result c.args.answer.now c.answer.new.answer _ _ (sym whole) c.answer.ensures
