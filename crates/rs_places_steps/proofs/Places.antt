-- Places, each a turn beside a gate, and how many they are.
use Rattle.std.proofs.Common.{◌≡◌, ◌⊎◌, ⊎_elim, ◌≤◌, List, [], ◌∷◌, length, map, refl, sym, ap, ◌∙◌, arith}
use Rattle.std.proofs.lemmas.List.{length-map}
use Rattle.std.specs.List.{AllZip}
use Rattle.rs_places_steps.specs.Places.{places_of}
use Rattle.rs_places_steps.specs.Shared.{SharedValue}
use Rattle.rs_places_steps.specs.Turns.{Connections}
use Rattle.rs_places_steps.specs.Visits.{Place, place_at}
use Rattle.rs_places_steps.proofs.Each.{each_length}

pub same_place : {T G : Type 0} (connections : T → Connections) (shared : G → SharedValue) (t u : T) (g h : G) → t ≡ u → g ≡ h → place_at (connections t) (shared g) ≡ place_at (connections u) (shared h)
same_place {T} {G} connections shared t u g h e f = ap (λ (t : T). place_at (connections t) (shared g)) e ∙ ap (λ (v : G). place_at (connections u) (shared v)) f

-- the first turn that is left goes with the first gate that is left
pub next_place : {T : Type 0} (connections : T → Connections) (turns turns_left : List T) (gates gates_left : List SharedValue) (turn : T) (gate : SharedValue)
    → turns ≡ turn ∷ turns_left → gates ≡ gate ∷ gates_left
    → places_of (map connections turns) gates ≡ place_at (connections turn) gate ∷ places_of (map connections turns_left) gates_left
next_place {T} connections turns turns_left gates gates_left turn gate t g =
    ap (λ (l : List T). places_of (map connections l) gates) t ∙ ap (λ (l : List SharedValue). places_of (connections turn ∷ map connections turns_left) l) g

-- there is no turn or no gate for another place
pub no_places : {T : Type 0} (connections : T → Connections) (turns : List T) (gates : List SharedValue) → (length turns ≡ 0) ⊎ (length gates ≡ 0) → places_of (map connections turns) gates ≡ []
no_places connections [] gates none = refl
no_places connections (turn ∷ turns) [] none = refl
no_places connections (turn ∷ turns) (gate ∷ gates) none = ⊎_elim (λ t. absurd (omega (arith, t))) (λ t. absurd (omega (arith, t))) none

pub places_length : (turns : List Connections) (gates : List SharedValue) → length turns ≡ length gates → length (places_of turns gates) ≡ length gates
places_length [] [] same = refl
places_length [] (gate ∷ gates) same = same
places_length (connections ∷ turns) [] same = refl
places_length (connections ∷ turns) (gate ∷ gates) same = let h = places_length turns gates (omega (arith, same)) in omega (arith, h)

places_few : (turns : List Connections) (gates : List SharedValue) → length (places_of turns gates) ≤ length gates
places_few [] gates = omega (arith)
places_few (connections ∷ turns) [] = omega (arith)
places_few (connections ∷ turns) (gate ∷ gates) = let h = places_few turns gates in omega (arith, h)

-- there are no more ends than gates
pub few_ends : {E Y : Type 0} (R : Place → Y → Type 0) (turns : List Connections) (gates : List SharedValue) (h : E → Y) (ends : List E)
    → AllZip R (places_of turns gates) (map h ends) → length ends ≤ length gates
few_ends R turns gates h ends served =
    let each = each_length R (places_of turns gates) (map h ends) served in
    let few = places_few turns gates in
    omega (arith, each, few, length-map ends h)
