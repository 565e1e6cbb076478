-- Why a place gets no receipt.
use Rattle.std.specs.Prelude.{ℕ, ◌≡◌, ◌≢◌, ◌+◌, ◌^◌, ◌⊎◌, ◌∷◌, ◌++◌, [], Some, Ok, Err}
use Rattle.rs_message.specs.declared.entry.Entry.{Entry}
use Rattle.rs_message.specs.declared.fault.SubmitFault.{SubmitFault}
use Rattle.rs_message.specs.declared.fault.SubmitFault.TheVariants as submit
use Rattle.rs_version.specs.declared.fault.PutFault.{PutFault}
use Rattle.rs_version.specs.declared.fault.PutFault.TheVariants as put
use Rattle.rs_intake_queue.specs.declared.waiting.Gone.{Gone}
use Rattle.rs_intake_line.specs.Done.{Outcome, ReplyValue}
use Rattle.rs_intake_line.specs.Lines.{IsOther, Line}

-- the fault that a line answers for the writer's refusal. The queue keeps the serials of a place in order, so a stale one is strange
abbrev pub fault_for : PutFault → SubmitFault
fault_for put.Full = submit.Full
fault_for put.NoMemory = submit.NoMemory
fault_for put.Held = submit.Open
fault_for put.Stale = submit.Strange

-- the fault of the outcome of this entry: that of a refusal, or strange if it is a receipt for another entry
abbrev pub IsFaultOfOutcome : Entry → Outcome → SubmitFault → Type 0
IsFaultOfOutcome e (Ok r) fault = (r.entry ≢ e) × (fault ≡ submit.Strange)
IsFaultOfOutcome e (Err f) fault = fault ≡ fault_for f

-- the fault of the reply, for the line that sent this entry: that of its outcome, or strange if it is a reply to another entry. A reply
-- with a receipt for the entry has none
abbrev pub IsFaultOfReply : Entry → ReplyValue → SubmitFault → Type 0
IsFaultOfReply e reply fault = ((reply.origin ≢ e.origin) × (fault ≡ submit.Strange))
    ⊎ ((reply.origin ≡ e.origin) × IsFaultOfOutcome e reply.outcome fault)

-- nothing was sent: the line has no serial left, there is no memory, or the send failed, and the line keeps its failure
abbrev pub IsUnsent : ℕ → Line → SubmitFault → Type 0
IsUnsent serial after fault = ((fault ≡ submit.Full) × (serial + 1 ≡ 2 ^ 64)) ⊎ (fault ≡ submit.NoMemory)
    ⊎ ((fault ≡ submit.Closed) × (gone : Gone) × (after.gone ≡ Some gone))

-- just this entry was sent, under a new serial
abbrev pub IsSent : Line → Line → Entry → Type 0
IsSent before after e = (after.serial ≡ before.serial + 1) × (after.sent ≡ before.sent ++ e ∷ [])

-- another change than this one was sent ahead, so nothing was done, and no serial was used
abbrev pub IsMistaken : Line → Line → Entry → SubmitFault → Type 0
IsMistaken before after e fault = IsOther before.ahead e.operation × (after.serial ≡ before.serial) × (after.sent ≡ before.sent)
    × (after.heard ≡ before.heard) × (fault ≡ submit.Strange)

-- Why there is no receipt: nothing was sent; or the entry was sent, and no reply came, since the receive failed; or one came that is no
-- receipt for it; or another change than this one was sent ahead
abbrev pub IsRefused : Line → Line → Entry → SubmitFault → Type 0
IsRefused before after e fault =
    ((after.sent ≡ before.sent) × (after.heard ≡ before.heard) × IsUnsent before.serial after fault)
    ⊎ (IsSent before after e × (after.heard ≡ before.heard) × (fault ≡ submit.Open) × (gone : Gone) × (after.gone ≡ Some gone))
    ⊎ (IsSent before after e × (reply : ReplyValue) × (after.heard ≡ before.heard ++ reply ∷ []) × IsFaultOfReply e reply fault)
    ⊎ IsMistaken before after e fault
