use Rattle.std.proofs.Common.{◌∙◌, sym}
use Rattle.rs_tree_bucket.specs.Keys.{IsKey}
use Rattle.rs_tree_bucket.proofs.KeyLemmas.{keys_lie}
use Rattle.rs_tree_bucket.proofs.sought.Sought.is_before.Goals as goal

pub returns-in-Some-Some-clause-before : goal.returns-in-Some-Some-clause-before
returns-in-Some-Some-clause-before c yea =
    let own : IsKey c.args.self.now c.in-Some-Some.own = rw (c.in-Some-Some.is-0, c.self.view_is) at c.self.invariant in
    keys_lie c.args.self.now c.args.label.now c.in-Some-Some.own c.in-Some-Some.other own c.in-Some-Some.ensures ∙ c.is_before.ensures.before yea

pub returns-in-Some-Some-clause-from : goal.returns-in-Some-Some-clause-from
returns-in-Some-Some-clause-from c nay less =
    let own : IsKey c.args.self.now c.in-Some-Some.own = rw (c.in-Some-Some.is-0, c.self.view_is) at c.self.invariant in
    c.is_before.ensures.from nay (sym (keys_lie c.args.self.now c.args.label.now c.in-Some-Some.own c.in-Some-Some.other own c.in-Some-Some.ensures) ∙ less)
