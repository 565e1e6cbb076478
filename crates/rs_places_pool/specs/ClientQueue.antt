-- A queue of clients.
use Rattle.std.specs.Prelude.{ℕ, List, Bool}
use Rattle.std.specs.VecDeque.{deque_capacity}
use Rattle.rs_places_pool.specs.declared.client_queue.ClientQueue.{ClientQueue}

-- those that wait, in their order
abbrev pub clients_of : ClientQueue → List ℕ
clients_of queue = queue.clients.items

-- for how many there is room without more memory
abbrev pub room_of : ClientQueue → ℕ
room_of queue = deque_capacity queue.clients

-- whether some waited at the last look, and none was taken since
abbrev pub stands_of : ClientQueue → Bool
stands_of queue = queue.stands
