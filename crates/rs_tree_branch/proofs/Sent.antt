-- The nodes may cross threads, in one step for whatever holds them: a recursive type is given no such step. They are shared, so the
-- two facts are proved together.
use denote.Builtin.{u8}
use denote.Param.Send.{IsSend, IsSync, sendable}
use Rattle.std.proofs.option.Option.TheSendSync as option
use Rattle.std.proofs.Crossing as std
use Rattle.std.specs.contracts.alloc.Global as Global
use Rattle.std.specs.contracts.impls.GlobalAllocator.TheImpl.{ghosts}
use Rattle.std.specs.contracts.vec.Vec as Vec
use Rattle.rs_message.proofs.found.Found.TheSendSync as message
use Rattle.rs_tree_bucket.proofs.label.Label.TheSendSync as label
use Rattle.rs_tree_bucket.proofs.bucket.Bucket.TheSendSync as bucket
use Rattle.rs_tree_branch.proofs.branch.Branch.TheLaws.TheKnot as knot
use Rattle.rs_tree_branch.specs.contracts.branch.Branch as Branch
use Rattle.rs_tree_branch.specs.contracts.branch.Child as Child
use Rattle.rs_tree_branch.specs.contracts.branch.remains.Remains as Remains
use Rattle.rs_message.specs.contracts.found.Found as Found

chain_send : IsSend (Vec.the_row u8 Global.the_row ghosts)
chain_send = std.Vec-send u8 (search sendable)

chain_sync : IsSync (Vec.the_row u8 Global.the_row ghosts)
chain_sync = std.Vec-sync u8 (search sendable)

pub branch_send : IsSend Branch.the_row
branch_send = knot.both_send-Branch
    (option.the_send Found.the_row message.the_send) (λ h s y. std.Vec-send h s) label.the_send bucket.the_send (λ h s y. std.Arc-send h s y) chain_send
    (option.the_sync Found.the_row message.the_sync) (λ h s y. std.Vec-sync h y) label.the_sync bucket.the_sync (λ h s y. std.Arc-sync h s y) chain_sync

pub branch_sync : IsSync Branch.the_row
branch_sync = knot.both_sync-Branch
    (option.the_send Found.the_row message.the_send) (λ h s y. std.Vec-send h s) label.the_send bucket.the_send (λ h s y. std.Arc-send h s y) chain_send
    (option.the_sync Found.the_row message.the_sync) (λ h s y. std.Vec-sync h y) label.the_sync bucket.the_sync (λ h s y. std.Arc-sync h s y) chain_sync

pub child_send : IsSend Child.the_row
child_send = knot.both_send-Child
    (option.the_send Found.the_row message.the_send) (λ h s y. std.Vec-send h s) label.the_send bucket.the_send (λ h s y. std.Arc-send h s y) chain_send
    (option.the_sync Found.the_row message.the_sync) (λ h s y. std.Vec-sync h y) label.the_sync bucket.the_sync (λ h s y. std.Arc-sync h s y) chain_sync

pub child_sync : IsSync Child.the_row
child_sync = knot.both_sync-Child
    (option.the_send Found.the_row message.the_send) (λ h s y. std.Vec-send h s) label.the_send bucket.the_send (λ h s y. std.Arc-send h s y) chain_send
    (option.the_sync Found.the_row message.the_sync) (λ h s y. std.Vec-sync h y) label.the_sync bucket.the_sync (λ h s y. std.Arc-sync h s y) chain_sync

pub remains_send : IsSend Remains.the_field.row
remains_send = search (child_send, std.crosses, sendable) depth 60 fits 20000

pub remains_sync : IsSync Remains.the_field.row
remains_sync = search (child_sync, std.crosses, sendable) depth 60 fits 20000
