use Rattle.std.proofs.Common.{◌≡◌, ◌+◌, ◌*◌, ◌≤◌, drop, length}
use Rattle.std.specs.List.{filter}
use Rattle.rs_tree_bucket.specs.Sweeping.{is_expired_spot}
use Rattle.rs_store.specs.declared.limit.TheConstants.{MAX_TOPICS}
use Rattle.rs_tree_branch.specs.Chunks.{depth, parts}
use Rattle.rs_tree_branch.proofs.branch.+expired.Given as goal

abbrev pub invariant-expired::count_each-loop-child : goal.invariant-expired::count_each-loop-child
invariant-expired::count_each-loop-child l =
    l.initial.count + length (parts l.children) ≤ MAX_TOPICS
    → (l.count + length (filter (is_expired_spot l.now) (parts (drop l.child-index l.children))) ≡ l.initial.count + length (filter (is_expired_spot l.now) (parts l.children)))
    × (l.count + length (parts (drop l.child-index l.children)) ≤ MAX_TOPICS)

-- thrice the depth, and more for the calls that leave the branch as it is
abbrev pub decreases-Branch::count_expired : goal.decreases-Branch::count_expired
decreases-Branch::count_expired l = l.self.now.depth * 3 + 2

abbrev pub decreases-Child::count_expired : goal.decreases-Child::count_expired
decreases-Child::count_expired l = l.self.now.depth * 3 + 3

abbrev pub decreases-expired::count_each : goal.decreases-expired::count_each
decreases-expired::count_each l = depth l.children.now * 3 + 1
