use Rattle.std.proofs.Common.{◌≡◌, All, false}
use Rattle.rs_message.specs.Messages.{is_sweep}
use Rattle.tests_store.proofs.queue.many.changes_of.Given as goal

-- none of the changes so far is a Sweep
abbrev pub invariant-loop-number : goal.invariant-loop-number
invariant-loop-number l = All (λ o. is_sweep o ≡ false) l.changes.items
