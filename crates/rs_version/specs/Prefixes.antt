-- What contracts see of a prefix of a history.
use Rattle.std.specs.Prelude.{List}
use Rattle.logbook.specs.Pages.{Book}
use Rattle.rs_message.specs.declared.entry.Entry.{Entry}

pub record PrefixValue : Type 0 where
  pub history : Book
  pub log : List Entry
