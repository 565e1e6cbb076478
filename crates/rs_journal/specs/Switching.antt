-- What a disk that syncs now and then is made of.
use Rattle.rs_journal.specs.declared.switched.Switched.{Switched}

-- the disk whose calls it makes
abbrev pub inner_of : {D : Type 0} → Switched D → D
inner_of it = it.inner
