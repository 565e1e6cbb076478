-- What the store of a single connection stands for.
use Rattle.std.specs.Prelude.{◌≡◌, ◌⊎◌, true, List}
use Rattle.std.specs.List.{All}
use Rattle.rs_message.specs.declared.entry.Entry.{Entry}
use Rattle.rs_message.specs.Messages.{is_sweep}
use Rattle.rs_store.specs.declared.content.Content.{Content}
use Rattle.rs_store.specs.History.{IsLegal, Stands}
use Rattle.rs_store.specs.Needed.{AreNeeded}
use Rattle.rs_session.specs.Local.{catalogue_of}
use Rattle.rs_program_pipe.specs.declared.own_store.OwnGate.{OwnGate}
use Rattle.rs_program_pipe.specs.declared.own_store.TheConstants.{MAX_OWN_TOPICS}

abbrev pub content_of : OwnGate → Content
content_of own = catalogue_of own.gate

abbrev pub IsOfOwnPlace : Entry → Type 0
IsOfOwnPlace e = e.origin.place ≡ 1

-- it is of the one place, or a Sweep of the writer, whose place is 0
abbrev pub IsOwnEntry : Entry → Type 0
IsOwnEntry e = IsOfOwnPlace e ⊎ ((e.origin.place ≡ 0) × (is_sweep e.operation ≡ true))

-- the content is that of the list, which is legal for its topics, and whose entries are of the one place, but for Sweeps that a Set of
-- it would need there
pub record IsOwn (c : Content) (history : List Entry) : Type 0 where
  pub stands : Stands c history
  pub legal : IsLegal MAX_OWN_TOPICS history
  pub places : All IsOwnEntry history
  pub needed : AreNeeded MAX_OWN_TOPICS IsOfOwnPlace history
