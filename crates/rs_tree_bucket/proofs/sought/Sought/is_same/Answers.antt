use Rattle.std.proofs.Common.{◌∙◌}
use Rattle.std.proofs.lemmas.Map.Lookups.{exact_bytes}
use Rattle.rs_tree_bucket.specs.Keys.{IsKey}
use Rattle.rs_tree_bucket.proofs.KeyLemmas.{keys_lie}
use Rattle.rs_tree_bucket.proofs.sought.Sought.is_same.Goals as goal

pub returns-in-Some-Some-clause-same : goal.returns-in-Some-Some-clause-same
returns-in-Some-Some-clause-same c yea =
    let own : IsKey c.args.self.now c.in-Some-Some.own = rw (c.in-Some-Some.is-0, c.self.view_is) at c.self.invariant in
    exact_bytes c.args.self.now c.args.label.now (keys_lie c.args.self.now c.args.label.now c.in-Some-Some.own c.in-Some-Some.other own c.in-Some-Some.ensures ∙ c.is_same.ensures.same yea)
