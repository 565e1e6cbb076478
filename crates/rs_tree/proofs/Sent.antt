-- The tree and its messages may cross threads, in one step for whatever holds them.
use denote.Param.Send.{IsSend, IsSync, sendable}
use Rattle.std.proofs.Crossing as std
use Rattle.rs_tree_branch.proofs.Sent.{branch_send, branch_sync, remains_send, remains_sync}
use Rattle.rs_tree.specs.contracts.tree.TreeCatalogue as Tree

pub tree_send : IsSend Tree.the_row
tree_send = search (branch_send, branch_sync, remains_send, std.crosses, sendable) depth 60 fits 20000

pub tree_sync : IsSync Tree.the_row
tree_sync = search (branch_send, branch_sync, remains_sync, std.crosses, sendable) depth 60 fits 20000
