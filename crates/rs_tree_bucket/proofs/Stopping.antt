-- What an answer that is given up would have become: more than there is room for.
use Rattle.std.proofs.Common.{◌≡◌, ℕ, List, ◌++◌, subst, arith, length-append}
use Rattle.rs_message.specs.declared.found.Found.{Found}
use Rattle.rs_store.specs.declared.answer.Stop.{Stop}
use Rattle.rs_store.specs.declared.answer.Stop.TheVariants.{NoRoom, NoMemory}
use Rattle.rs_store.specs.Room.{IsStop}

pub stop_at : (s : Stop) (room : ℕ) (xs ys : List Found) → xs ≡ ys → IsStop s room xs → IsStop s room ys
stop_at s room xs ys same h = let P : List Found → Type 0 = λ l. IsStop s room l in subst P same h

-- what is longer is given up too
pub stop_more : (s : Stop) (room : ℕ) (xs ys : List Found) → IsStop s room xs → IsStop s room (xs ++ ys)
stop_more NoRoom room xs ys h = omega (arith, h, length-append xs ys)
stop_more NoMemory room xs ys h = tt
