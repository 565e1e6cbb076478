-- How many messages an answer may have.
use Rattle.std.specs.Prelude.{ℕ, ◌<◌, List, length}
use Rattle.rs_message.specs.declared.found.Found.{Found}
use Rattle.rs_store.specs.declared.answer.Stop.{Stop}
use Rattle.rs_store.specs.declared.answer.Stop.TheVariants.{NoRoom, NoMemory}

-- why an answer is given up that is this list, or has this list as a prefix
abbrev pub IsStop : Stop → ℕ → List Found → Type 0
IsStop NoRoom room found = room < length found
IsStop NoMemory room found = Unit {0}
