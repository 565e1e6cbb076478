-- What is left of a line that was closed.
use Rattle.std.specs.Prelude.{ℕ, ◌≡◌, ◌∷◌, List, [], Option, Some, None}
use Rattle.rs_message.specs.declared.entry.Entry.{Entry}
use Rattle.rs_intake_queue.specs.declared.waiting.Gone.{Gone}

-- a place, what was sent from it, the places of the Ends that were sent behind that, and whether the send of the End failed
pub record Closed : Type 0 where
  pub place : ℕ
  pub sent : List Entry
  pub ends : List ℕ
  pub gone : Option Gone

-- one End was sent, which is the place's own; or none, since its send failed
abbrev pub IsClosed : ℕ → List ℕ → Option Gone → Type 0
IsClosed place ends None = ends ≡ place ∷ []
IsClosed place ends (Some gone) = ends ≡ []
