-- The cell in which the end of a client comes, and what those who use it know.
use Rattle.std.specs.Prelude.{◌≡◌, ℕ, List, Option, Some, None}
use Rattle.std.specs.List.{AllByRecursion}
use mathlib.Core.Option.{some}
use lib.ListN.{get_elem?}
use Rattle.rs_places_steps.specs.declared.begun.Begun.{Begun}
use Rattle.rs_places_steps.specs.declared.end_cell.Coming.{Coming}
use Rattle.rs_places_steps.specs.declared.end_cell.Coming.TheVariants as coming

-- what the client began with, of which this is the end or the beginning
abbrev pub begun_in : {T G I O C E N : Type 0} → Coming T G I O C E N → Begun T G
begun_in (coming.Begun begun) = begun
begun_in (coming.Done begun) = begun

-- what one who uses the cell at this port knows: the client whose end comes, once that is said; before that there is only the one at the port `owner`
pub record KnowsClient {B : Type 0} (owner : ℕ) (client : Option B) (port : ℕ) (view : Option B) : Type 0 where
  pub same : view ≡ client
  pub alone : client ≡ None → port ≡ owner

-- what always holds: what lies in the cell came of the client that all know
pub record IsEndCell {X B : Type 0} (begun : X → B) (items : List X) (views : List (Option B)) : Type 0 where
  pub owner : ℕ
  pub client : Option B
  pub lies : AllByRecursion (λ coming. client ≡ Some (begun coming)) items
  pub known : (port : ℕ) (view : Option B) → get_elem? views port ≡ some view → KnowsClient owner client port view
