-- What the store lacks, by the outcomes of changes.
use Rattle.std.specs.Prelude.{ℕ, ◌+◌, ◌||◌, nat_lt, Bool, true, false, cond, Result, Ok, Err}
use Rattle.rs_message.specs.declared.entry.Operation.{Operation}
use Rattle.rs_message.specs.declared.entry.Operation.TheVariants.{Set, Clear, Sweep}
use Rattle.rs_version.specs.Receipts.{ReceiptValue}
use Rattle.rs_version.specs.declared.fault.PutFault.{PutFault}
use Rattle.rs_version.specs.declared.fault.PutFault.TheVariants.{Full, Stale, NoMemory, Held}
use Rattle.rs_intake_line.specs.declared.fullness.Lack.{Lack}
use Rattle.rs_intake_line.specs.declared.fullness.Lack.TheVariants.{Nothing, Topics, Memory}

abbrev pub is_clear : Operation → Bool
is_clear (Set _) = false
is_clear (Clear _) = true
is_clear (Sweep _) = false

-- the entry clears a topic, or a Sweep or a held entry came before it: behind the last entry it is not the next one
abbrev pub makes_room : ℕ → ReceiptValue → Bool
makes_room last receipt = is_clear receipt.entry.operation || nat_lt (last + 1) receipt.number

-- what the store lacks once a change was accepted: topics, if it did and the change makes no room
abbrev pub lack_once : Lack → Bool → Lack
lack_once Nothing room = Nothing
lack_once Topics room = cond room Nothing Topics
lack_once Memory room = Nothing

-- What the store lacks after this outcome, by what it lacked before, and the number of the last entry that was published. What is held
-- is taken, and may clear a topic.
abbrev pub lack_after : Lack → ℕ → Result ReceiptValue PutFault → Lack
lack_after was last (Ok receipt) = lack_once was (makes_room last receipt)
lack_after was last (Err Full) = Topics
lack_after was last (Err Stale) = was
lack_after was last (Err NoMemory) = Memory
lack_after was last (Err Held) = Nothing

-- the number of the last entry after this outcome
abbrev pub last_after : ℕ → Result ReceiptValue PutFault → ℕ
last_after last (Ok receipt) = receipt.number
last_after last (Err _) = last
