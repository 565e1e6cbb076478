-- Receipts: the number of an entry in a list.
use Rattle.std.specs.Prelude.{ℕ, ◌≡◌, ◌+◌, List, ◌∷◌, ◌++◌, length}
use Rattle.rs_message.specs.declared.entry.Entry.{Entry}
use Rattle.rs_store.specs.History.{IsLegal}

-- the entry is the one at this number of the list, counted from 1
pub record StandsAt (e : Entry) (number : ℕ) (list : List Entry) : Type 0 where
  pub before : List Entry
  pub after : List Entry
  pub whole : list ≡ before ++ e ∷ after
  pub counted : number ≡ length before + 1

-- what contracts see of a receipt
pub record ReceiptValue : Type 0 where
  pub entry : Entry
  pub number : ℕ
  pub told : List Entry

-- no two entries of a legal list have one origin
abbrev pub OriginsDiffer : Type 0
OriginsDiffer = (limit : ℕ) (list : List Entry) (d e : Entry) (m n : ℕ) → IsLegal limit list → StandsAt d m list → StandsAt e n list
    → d.origin ≡ e.origin → m ≡ n
