-- The points of a session, and what it is given at one.
use Rattle.std.specs.Prelude.{ℕ, List}
use Rattle.rs_message.specs.declared.entry.Entry.{Entry}
use Rattle.rs_session.specs.declared.phase.Input.{Input}
use Rattle.rs_session.specs.Gate.{Mark}

-- an input, and its moment in seconds
pub record Given : Type 0 where
  pub input : Input
  pub now : ℕ

abbrev pub given_at : Input → ℕ → Given
given_at input now = record { input = input; now = now }

-- the state of a session, or what an open one keeps, with the gate's list and its mark
pub record Point (S : Type 0) : Type 0 where
  pub state : S
  pub seen : List Entry
  pub mark : Mark

abbrev pub point_at : {S : Type 0} → S → List Entry → Mark → Point S
point_at state seen mark = record { state = state; seen = seen; mark = mark }

-- another state, at the same list and mark
abbrev pub with_state : {S T : Type 0} → Point S → T → Point T
with_state point state = point_at state point.seen point.mark
