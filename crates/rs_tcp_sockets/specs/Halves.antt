-- What the halves of a connection show.
use Rattle.std.specs.Prelude.{◌≡◌, ◌+◌, ◌-◌, ◌^◌, min, ℕ, true, List, Option, Result, MatchResult}
use Rattle.std.specs.declared.io.Error.{Error}
use Rattle.crossbeam_queue.specs.Passes.{view}
use Rattle.rs_tcp_sockets.specs.declared.halves.ReadHalf.{ReadHalf}
use Rattle.rs_tcp_sockets.specs.declared.halves.WriteHalf.{WriteHalf}

-- the bytes that the reader has left
abbrev pub unread_of : {R W : Type 0} → (R → Option (List ℕ)) → ReadHalf R W → Option (List ℕ)
unread_of remaining half = remaining half.inner

-- the bytes that the shared writer holds, and those that wait there
abbrev pub written_of : {W : Type 0} → WriteHalf W → Option (List ℕ)
written_of half = (view half.pass).known

-- When the half last gave the shared writer back, nothing waited there.
abbrev pub LeftNoneWaiting : {R W : Type 0} → ReadHalf R W → Type 0
LeftNoneWaiting half = (view half.pass).written_out ≡ true

-- why the half failed to write out, if no read has told it yet
abbrev pub untold_fault_of : {R W : Type 0} → ReadHalf R W → Option Error
untold_fault_of half = half.fault

-- what was read or written is counted, up to the greatest number
abbrev pub Counts : {E : Type 0} → ℕ → Result ℕ E → ℕ → Type 0
Counts before result after = MatchResult result (λ size. after ≡ min (before + size) (2 ^ 64 - 1)) (λ _. after ≡ before)
