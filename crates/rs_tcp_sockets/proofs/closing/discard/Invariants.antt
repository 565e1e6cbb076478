use Rattle.std.proofs.Common.{◌≡◌, ℕ, List, length, ◌+◌}
use Rattle.std.specs.Io.KnownBytes.{Consumes}
use Rattle.rs_tcp_sockets.specs.declared.limits.TheConstants.{MAX_DISCARDED}
use Rattle.rs_tcp_sockets.proofs.closing.discard.Given as goal

-- what was discarded and what may still be
abbrev pub invariant-loop-left : goal.invariant-loop-left
invariant-loop-left g l = (discarded : List ℕ) × (length discarded + l.left ≡ MAX_DISCARDED)
    × Consumes (g.S.Read.remaining l.initial.stream) (g.S.Read.remaining l.stream) discarded

abbrev pub decreases-loop-left : goal.decreases-loop-left
decreases-loop-left g l = l.left
