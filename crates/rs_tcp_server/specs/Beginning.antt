-- What a server's store begins with, and how many entries its writer may hold.
use Rattle.std.specs.Prelude.{ℕ, List, [], Option, Some, None}
use Rattle.rs_journal_writer.specs.declared.kept_writer.TheConstants.{MAX_HELD}
use Rattle.rs_message.specs.declared.entry.Entry.{Entry}
use Rattle.rs_version.specs.First.{first_of}
use Rattle.rs_tcp_server.specs.declared.keeping.KeptFolder.{KeptFolder}
use Rattle.rs_tcp_server.specs.declared.keeping.KeptFolder.TheVariants.{Synced, Switched}

-- the Sets of the messages that a folder keeps
abbrev pub first_of_folder : KeptFolder → List Entry
first_of_folder (Synced kept) = first_of kept
first_of_folder (Switched kept switch log) = first_of kept

-- nothing, if no folder keeps the messages
abbrev pub first_in : Option KeptFolder → List Entry
first_in None = []
first_in (Some folder) = first_of_folder folder

abbrev pub most_held_in : Option KeptFolder → ℕ
most_held_in None = 1
most_held_in (Some folder) = MAX_HELD
