-- What a catalogue keeps of its entries beside their messages.
use Rattle.std.specs.Prelude.{ℕ, ◌+◌, List, replicate, slice_set}
use Rattle.rs_message.specs.Values.{MessageValue, OriginValue}
use Rattle.rs_store.specs.declared.content.Content.{Content}
use Rattle.rs_store.specs.Contents.{serial_count}

-- as a content has them: the limit, the last serials, and the number of entries
pub record LedgerValue : Type 0 where
  pub limit : ℕ
  pub serials : List ℕ
  pub version : ℕ

-- of no entry
abbrev pub unused : ℕ → LedgerValue
unused limit = record { limit = limit; serials = replicate serial_count 0; version = 0 }

-- of an entry more, of this origin
abbrev pub counted : LedgerValue → OriginValue → LedgerValue
counted l origin = record { limit = l.limit; serials = slice_set l.serials origin.place origin.serial; version = l.version + 1 }

-- the content of these messages and this ledger
abbrev pub content_of : List (List ℕ × MessageValue) → LedgerValue → Content
content_of retained l = record { limit = l.limit; retained = retained; serials = l.serials; version = l.version }
