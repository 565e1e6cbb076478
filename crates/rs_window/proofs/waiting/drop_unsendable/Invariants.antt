use Rattle.std.proofs.Common.{◌≡◌, length}
use Rattle.rs_window.specs.Waiting.{sendable}
use Rattle.rs_window.proofs.waiting.drop_unsendable.Given as goal

abbrev pub invariant-loop-first : goal.invariant-loop-first
invariant-loop-first l = sendable l.packet_maximum l.now l.waiting.items ≡ sendable l.packet_maximum l.now l.initial.waiting.items

abbrev pub decreases-loop-first : goal.decreases-loop-first
decreases-loop-first l = length l.waiting.items
