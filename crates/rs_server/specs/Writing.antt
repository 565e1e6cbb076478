-- What is written, and why it was not.
use Rattle.std.specs.Prelude.{◌≡◌, ℕ, ◌<◌, Option, List, ◌++◌, Result, Ok, Err}
use Rattle.std.specs.List.{flat_map}
use Rattle.std.specs.Io.KnownBytes.{Appends}
use Rattle.rs_packet.specs.Replies.{reply_bytes}
use Rattle.rs_packet.specs.declared.reply.Reply.{Reply}
use Rattle.rs_server.specs.declared.writing.ServeFault.{ServeFault}
use Rattle.rs_server.specs.declared.writing.ServeFault.TheVariants.{Read, Write, NoMemory}

-- the replies' bytes, one after the other
abbrev pub all_reply_bytes : List Reply → List ℕ
all_reply_bytes replies = flat_map reply_bytes replies

-- the bytes, if they are given, grow by a prefix of these
abbrev pub AppendsFront : Option (List ℕ) → Option (List ℕ) → List ℕ → Type 0
AppendsFront old new bytes = (front : List ℕ) × (back : List ℕ) × (bytes ≡ front ++ back) × Appends old new front

-- All of the bytes were written, or a prefix of them before the writer or memory failed.
abbrev pub Writes : {T : Type 0} → Result T ServeFault → Option (List ℕ) → Option (List ℕ) → List ℕ → Type 0
Writes (Ok x) old new bytes = Appends old new bytes
Writes (Err Read) old new bytes = Appends old new bytes
Writes (Err Write) old new bytes = AppendsFront old new bytes
Writes (Err NoMemory) old new bytes = AppendsFront old new bytes

-- A writer's failures rise only at the fault that says so, and it is told of no other.
abbrev pub IsWriteCause : {T : Type 0} → Result T ServeFault → ℕ → ℕ → Type 0
IsWriteCause (Ok x) before after = after ≡ before
IsWriteCause (Err Read) before after = ⊥
IsWriteCause (Err Write) before after = before < after
IsWriteCause (Err NoMemory) before after = after ≡ before

-- the number of a fault
abbrev pub fault_number : ServeFault → ℕ
fault_number Read = 60
fault_number Write = 61
fault_number NoMemory = 62
