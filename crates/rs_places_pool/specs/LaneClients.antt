-- The clients of a lane: those of which its threads were told, and those that were read.
use Rattle.std.specs.Prelude.{◌≡◌, ◌≢◌, ◌+◌, ◌-◌, ◌<◌, ◌≤◌, ◌++◌, ◌∷◌, ℕ, List, [], Bool, false, length, Option, option_to_list, IfNone, MatchOption}
use Rattle.rs_places_pool.specs.ClientQueue.{clients_of, room_of, stands_of}
use Rattle.rs_places_pool.specs.declared.client_queue.ClientQueue.{ClientQueue}
use Rattle.rs_places_pool.specs.declared.lane_clients.LaneClients.{LaneClients}

-- those that are to be read
abbrev pub told_of : LaneClients → List ℕ
told_of lane = clients_of lane.told

-- those that were read and have changes, while others are read
abbrev pub changed_of : LaneClients → List ℕ
changed_of lane = clients_of lane.changed

-- those that were read and have no changes
abbrev pub alone_of : LaneClients → List ℕ
alone_of lane = clients_of lane.alone

-- those that were read and are served together
abbrev pub together_of : LaneClients → List ℕ
together_of lane = clients_of lane.together

-- There is room for so many in each queue.
abbrev pub HasRoom : ℕ → LaneClients → Type 0
HasRoom clients lane = (clients ≤ room_of lane.told) × (clients ≤ room_of lane.changed) × (clients ≤ room_of lane.alone)
    × (clients ≤ room_of lane.together)

-- Those with changes that were read, in their order, wherever they are: none is lost and none is added.
abbrev pub KeepsChanged : LaneClients → LaneClients → Type 0
KeepsChanged before after = together_of after ++ changed_of after ≡ together_of before ++ changed_of before

-- The next client that is to be read is the first that was told of. Once it is the last, all that have changes are served together, if there
-- is room.
abbrev pub IsNextTold : LaneClients → Option ℕ → LaneClients → Type 0
IsNextTold before next after =
    (told_of before ≡ option_to_list next ++ told_of after)
    × (IfNone next (told_of before ≡ []))
    × (alone_of after ≡ alone_of before)
    × KeepsChanged before after
    × (told_of after ≡ [] → length (together_of before) + length (changed_of before) ≤ room_of before.together → changed_of after ≡ [])

-- The next client that has changes. If there is none, no thread serves such. If the writer has replied to the first ones, it is the first of
-- them. Else it is the last of all, and the writer has replied to the others once it has to that one.
abbrev pub IsNextTogether : LaneClients → Option ℕ → LaneClients → Type 0
IsNextTogether before next after = MatchOption next
    ((together_of before ≡ []) × (together_of after ≡ []) × (after.is_served ≡ false))
    (λ number.
    (0 < before.replied → (together_of before ≡ number ∷ together_of after) × (after.replied + 1 ≡ before.replied))
    × (before.replied ≡ 0 → (together_of before ≡ together_of after ++ number ∷ []) × (after.replied ≡ length (together_of after))))
