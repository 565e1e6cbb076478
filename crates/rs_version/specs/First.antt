-- What a store begins with.
use Rattle.std.specs.Prelude.{ℕ, ◌≡◌, ◌+◌, false, List, [], ◌∷◌}
use Rattle.std.specs.List.{AllByRecursion}
use Rattle.rs_message.specs.Messages.{is_sweep}
use Rattle.rs_message.specs.declared.entry.Entry.{Entry}
use Rattle.rs_message.specs.declared.entry.Operation.TheVariants.{Set}
use Rattle.rs_message.specs.declared.found.Found.{Found}

-- the Set of a message by the writer's own place
abbrev pub own_set : ℕ → Found → Entry
own_set serial found = record { origin = record { place = 0; serial = serial }; operation = Set found }

-- the same of each of these messages, with the serials behind this one
abbrev pub sets_behind : ℕ → List Found → List Entry
sets_behind serial [] = []
sets_behind serial (found ∷ given) = own_set (serial + 1) found ∷ sets_behind (serial + 1) given

-- the first entries of a store to which these messages are given
abbrev pub first_of : List Found → List Entry
first_of given = sets_behind 0 given

-- each entry is of the writer's own place, and none is a Sweep
abbrev pub AreOwn : List Entry → Type 0
AreOwn entries = AllByRecursion (λ e. (e.origin.place ≡ 0) × (is_sweep e.operation ≡ false)) entries
