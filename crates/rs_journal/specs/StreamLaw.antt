-- What two files stand for is determined.
use Rattle.std.specs.Prelude.{◌≡◌, List, ℕ}
use Rattle.sqlite_wal.specs.Recovery.{Image}
use Rattle.rs_journal.specs.Images.{StandsFor}

-- files stand for one stream at most
abbrev pub OneStream : Type 0
OneStream = (image : Image) (stream other : List ℕ) → StandsFor image stream → StandsFor image other → stream ≡ other
