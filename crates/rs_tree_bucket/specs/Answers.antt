-- What a call appends to an answer.
use Rattle.std.specs.Prelude.{◌≡◌, List, ◌++◌, Result, Ok, Err}
use Rattle.rs_message.specs.declared.found.Found.{Found}
use Rattle.rs_store.specs.Room.{IsStop}
use Rattle.rs_store.specs.declared.answer.Answer.{Answer}
use Rattle.rs_store.specs.declared.answer.Stop.{Stop}

-- it appends the messages, or is given up since there is no room or no memory for them
abbrev pub Gives : {T : Type 0} → Result T Stop → Answer → Answer → List Found → Type 0
Gives (Ok u) old new found = (new.found.items ≡ old.found.items ++ found) × (new.room ≡ old.room)
Gives (Err stop) old new found = IsStop stop old.room (old.found.items ++ found) × (new.room ≡ old.room)
