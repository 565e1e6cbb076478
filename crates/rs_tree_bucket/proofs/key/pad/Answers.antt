use Rattle.std.proofs.Common.{List, ℕ, ◌<◌, ◌∙◌, ap, arith, get_or, length, set, sym, take, take_all, add-one}
use Rattle.std.proofs.Math.ListN.{length-set}
use Rattle.rs_tree_bucket.specs.Keys.{padded}
use Rattle.rs_tree_bucket.proofs.KeyLemmas.{padded_more, padded_start}
use Rattle.rs_tree_bucket.proofs.key.pad.Goals as goal

pub loop-i-preserved : goal.loop-i-preserved
loop-i-preserved c =
    let level = c.args.level.now in
    let i : ℕ = c.loop-i.i in
    let small : i < length level = omega (arith, c.loop-i-test.true) in (
      ap (λ (w : List ℕ). set w i (get_or level i 0)) c.loop-i.invariant.0 ∙ (padded_more 14 i level small (omega (arith, small, c.requires)) ∙ ap (λ (n : ℕ). padded 14 (take n level)) (sym (add-one i))),
      length-set c.loop-i.bytes i (get_or level i 0) ∙ c.loop-i.invariant.1,
    )

pub returns-clause-same : goal.returns-clause-same
returns-clause-same c = c.loop-i.invariant.0 ∙ ap (padded 14) (take_all c.loop-i.i c.args.level.now (omega arith))

pub returns-clause-start : goal.returns-clause-start
returns-clause-start c =
    let level = c.args.level.now in
    ap (take (length level)) (c.loop-i.invariant.0 ∙ ap (padded 14) (take_all c.loop-i.i level (omega arith))) ∙ padded_start 14 level c.requires
