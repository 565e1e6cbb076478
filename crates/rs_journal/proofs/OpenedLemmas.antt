-- From files to an open pager, and back.
use Rattle.std.proofs.Common.{◌≡◌, ◌⊎◌, inl, inr, Bool, IsTrue, sym, subst}
use Rattle.sqlite_disk.specs.declared.Disk.{Ghosts}
use Rattle.sqlite_wal.specs.Files.{seen_image}
use Rattle.sqlite_wal.specs.Reads.{OnlyReads}
use Rattle.sqlite_wal.specs.Recovery.{Image, IsUnreadable}
use Rattle.sqlite_pager.specs.declared.pager.Pager.{Pager}
use Rattle.sqlite_pager.specs.Pager.{files, image, state, AreUsable}
use Rattle.rs_journal.specs.Images.{AreKept, IsUnmade, outcomes_of}
use Rattle.rs_journal.specs.declared.pages.fault.OpenFault.{OpenFault}
use Rattle.rs_journal.specs.declared.pages.fault.OpenFault.TheVariants.{Foreign, Version, Damaged, LoneLog, ForeignLog, NoMemory, Disk}
use Rattle.rs_journal.specs.OpenFaults.{AreSpared, Explains, HasOtherHead, IsForeignLog, IsHindrance, IsLoneLog, IsRefusal}
use Rattle.rs_journal.proofs.CheckLemmas.{kept_by_reads, kept_out, kept_over, kept_trans, other_explained}

-- a hindrance is no refusal
pub no_both : (fault : OpenFault) → IsRefusal fault → IsHindrance fault → ⊥
no_both Foreign refusal h = h
no_both (Version n) refusal h = h
no_both Damaged refusal h = h
no_both LoneLog refusal h = refusal
no_both ForeignLog refusal h = refusal
no_both NoMemory refusal h = refusal
no_both (Disk e) refusal h = refusal

-- a log that is none
pub foreign_refuses_none : (fault : OpenFault) (P : Type 0) → IsHindrance fault ⊎ ((fault ≡ ForeignLog) × P) → IsRefusal fault → ⊥
foreign_refuses_none fault P (inl h) refusal = no_both fault refusal h
foreign_refuses_none fault P (inr is) refusal = subst IsRefusal is.0 refusal

pub foreign_explained : (fault : OpenFault) (seen : Image) → IsHindrance fault ⊎ ((fault ≡ ForeignLog) × IsForeignLog seen.log) → Explains fault seen
foreign_explained fault seen (inl h) = other_explained fault seen (inl h)
foreign_explained fault seen (inr is) = subst (λ (f : OpenFault). Explains f seen) (sym is.0) is.1

-- what holds of files that are spared, if it does of those that were looked at and are none
pub spared_only : (names_stay : Bool) (seen : Image) (P : Type 0) → ¬ IsLoneLog seen → ¬ HasOtherHead seen → (¬ IsUnmade seen → IsUnreadable 1024 seen → P) → (IsTrue names_stay → ¬ IsForeignLog seen.log)
    → AreSpared names_stay seen → P
spared_only names_stay seen P lone head unreadable foreign (inl is) = absurd (lone is)
spared_only names_stay seen P lone head unreadable foreign (inr (inl is)) = absurd (head is)
spared_only names_stay seen P lone head unreadable foreign (inr (inr (inl is))) = unreadable is.0 is.1
spared_only names_stay seen P lone head unreadable foreign (inr (inr (inr is))) = absurd (foreign is.0 is.1)

module _ {D : Type 0} {g : Ghosts D} where
  -- a pager over files that were read
  pub kept_before : (log db log' db' : D) (it : Pager D g) → OnlyReads g log log' → OnlyReads g db db' → files it ≡ (log', db') → AreKept (seen_image g log db) (outcomes_of g log db) (image it) (state it).may_leave
  kept_before log db log' db' it of_log of_db is =
      kept_trans (seen_image g log db) (seen_image g log' db') (image it) (outcomes_of g log db) (outcomes_of g log' db') (state it).may_leave (kept_by_reads log db log' db' of_log of_db) (kept_over it log' db' is)

  -- files that were given back
  pub kept_behind : (log db : D) (it last : Pager D g) (log' db' : D) → AreKept (seen_image g log db) (outcomes_of g log db) (image it) (state it).may_leave → AreKept (image it) (state it).may_leave (image last) (state last).may_leave
      → files last ≡ (log', db') → AreKept (seen_image g log db) (outcomes_of g log db) (seen_image g log' db') (outcomes_of g log' db')
  kept_behind log db it last log' db' before kept is =
      kept_trans (seen_image g log db) (image it) (seen_image g log' db') (outcomes_of g log db) (state it).may_leave (outcomes_of g log' db') before
      (kept_trans (image it) (image last) (seen_image g log' db') (state it).may_leave (state last).may_leave (outcomes_of g log' db') kept (kept_out last log' db' is))

  pub usable_over : (it : Pager D g) (log db : D) → files it ≡ (log, db) → IsTrue (g.is_usable log) → IsTrue (g.is_usable db) → AreUsable it
  usable_over it log db is of_log of_db = subst (λ (both : D × D). IsTrue (g.is_usable both.0) × IsTrue (g.is_usable both.1)) (sym is) (of_log, of_db)
