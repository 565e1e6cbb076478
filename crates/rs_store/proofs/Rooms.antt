-- Whether an answer fits into the room for it.
use Rattle.std.proofs.Common.{◌≡◌, ℕ, ◌<◌, ◌≤◌, List, length, refl, Some, None}
use Rattle.std.proofs.lemmas.Bool.{le-leb, lt-leb}
use Rattle.rs_message.specs.declared.found.Found.{Found}
use Rattle.rs_store.specs.Contents.{if_fits}

pub some_fits : (room : ℕ) (xs ys : List Found) → xs ≡ ys → length xs ≤ room → Some xs ≡ if_fits room ys
some_fits room xs ys same h = rw (← same, le-leb (length xs) room h) refl

pub none_fits : (room : ℕ) (ys : List Found) → room < length ys → None ≡ if_fits room ys
none_fits room ys h = rw (lt-leb (length ys) room h) refl
