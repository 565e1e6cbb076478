-- What an error of a journal means for the operations that were not committed.
use Rattle.rs_journal.specs.declared.fault.WriteFault.{WriteFault}
use Rattle.rs_journal.specs.declared.fault.WriteFault.TheVariants.{Refused, Doubtful}

-- none of them stands, and no crash brings them back
abbrev pub IsRefused : WriteFault → Type 0
IsRefused (Refused e) = Unit {0}
IsRefused (Doubtful e) = ⊥
