-- One writer that two halves of a connection take in turn, and what each half knows of it.
use Rattle.std.specs.Prelude.{◌≡◌, ℕ, Bool, true, List, [], ◌∷◌, Option}
use mathlib.Core.Option.{some}
use lib.ListN.{get_elem?}
use Rattle.std.specs.Io.KnownBytes.{Keeps}
use Rattle.rs_tcp_sockets.specs.declared.sharing.HalfView.{HalfView}

abbrev pub view_of : Bool → Bool → Bool → Option (List ℕ) → HalfView
view_of writes holds written_out known = record { writes = writes; holds = holds; written_out = written_out; known = known }

-- the one writer that lies in the cell has these contents
abbrev pub Shows : {T : Type 0} → (T → Option (List ℕ)) → List T → Option (List ℕ) → Type 0
Shows contents [] now = Unit {0}
Shows contents (x ∷ []) now = contents x ≡ now
Shows contents (x ∷ (y ∷ xs)) now = ⊥

-- Only the half at the port `writer` knows all that was written. At most the half at the port `holder` has
-- the writer, and then none lies in the cell.
abbrev pub Fits : {T : Type 0} → List T → ℕ → ℕ → Option (List ℕ) → ℕ → HalfView → Type 0
Fits items writer holder now port view =
    (view.writes ≡ true → (port ≡ writer) × Keeps view.known now)
    × (view.holds ≡ true → (port ≡ holder) × (view.known ≡ now) × (items ≡ []))

-- what always holds of the cell and of all views
abbrev pub IsShared : {T : Type 0} → (T → Option (List ℕ)) → List T → List HalfView → Type 0
IsShared contents items views =
    (writer : ℕ) × (holder : ℕ) × (now : Option (List ℕ)) × Shows contents items now
    × ((port : ℕ) (view : HalfView) → get_elem? views port ≡ some view → Fits items writer holder now port view)
