-- The clients that have no connection, and how far the next one is.
use Rattle.std.specs.Prelude.{◌≡◌, ◌≢◌, ◌++◌, ◌∷◌, ℕ, List, [], Option, MatchOption}
use Rattle.rs_tcp_sockets.specs.declared.free_clients.Arrival.{Arrival}
use Rattle.rs_tcp_sockets.specs.declared.free_clients.Arrival.TheVariants.{AcceptedBy, Unasked}
use Rattle.rs_tcp_sockets.specs.declared.free_clients.FreeClients.{FreeClients}

-- those that wait
abbrev pub waiting_of : FreeClients → List ℕ
waiting_of free = free.waiting.items

-- how far the next connection is
abbrev pub arrival_of : FreeClients → Arrival
arrival_of free = free.arrival

-- The listener has told of a connection: one of those that wait accepts it, if there is one.
abbrev pub IsTold : FreeClients → Option ℕ → FreeClients → Type 0
IsTold before client after = MatchOption client
    ((waiting_of before ≡ []) × (waiting_of after ≡ []) × (arrival_of after ≡ Unasked))
    (λ number. (waiting_of before ≡ waiting_of after ++ number ∷ []) × (arrival_of after ≡ AcceptedBy number))

-- This client does not accept any more. If another does, or none, that stays so.
abbrev pub EndsAccept : ℕ → Arrival → Arrival → Type 0
EndsAccept client before after =
    (before ≡ AcceptedBy client → after ≡ Unasked) × (before ≢ AcceptedBy client → after ≡ before)
