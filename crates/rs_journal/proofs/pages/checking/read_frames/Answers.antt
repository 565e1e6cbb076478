use Rattle.std.proofs.Common.{◌≡◌, ◌⊎◌, inl, inr, ℕ, List, refl, sym, subst, rules}
use Rattle.sqlite_wal.specs.declared.error.Error.{Error}
use Rattle.sqlite_wal.specs.declared.error.Error.TheVariants.{Io, OutOfMemory, Closed, NoSuchPage, Full, Corrupt, Exists}
use Rattle.sqlite_wal.specs.Opening.{RefusesLog}
use Rattle.sqlite_wal.specs.Outcome.{HasCause}
use Rattle.sqlite_wal.specs.Recovery.{Replays}
use Rattle.rs_journal.specs.declared.pages.fault.OpenFault.{OpenFault}
use Rattle.rs_journal.specs.declared.pages.fault.OpenFault.TheVariants.{Foreign}
use Rattle.rs_journal.specs.OpenFaults.{IsHindrance, fault_of}
use Rattle.rs_journal.proofs.pages.checking.read_frames.Goals as goal

full_is : Corrupt ≡ Full → ⊥
full_is same = cc

log_refused : (old new : ℕ) (log : List ℕ) (e : Error) → HasCause old new (RefusesLog 1024 log) e → IsHindrance (fault_of e) ⊎ ((fault_of e ≡ Foreign) × ((k : ℕ) → ¬ Replays 1024 log k))
log_refused old new log (Io e) cause = inl tt
log_refused old new log OutOfMemory cause = inl tt
log_refused old new log Closed cause = inl tt
log_refused old new log NoSuchPage cause = inl tt
log_refused old new log Full cause = inl tt
log_refused old new log Exists cause = inl tt
log_refused old new log Corrupt (inl none) = inr (refl, none.1)
log_refused old new log Corrupt (inr full) = absurd (full_is full.0)

pub returns-in-Err-clause-refused : goal.returns-in-Err-clause-refused
returns-in-Err-clause-refused g c = λ clean.
    let log : List ℕ = g.D.Disk.seen c.args.log.now in
    let old : ℕ = g.D.Disk.faults c.args.log.now in
    let new : ℕ = g.D.Disk.faults c.probe_frames.new.log in
    let sized : c.unwrap-size.result.bytes ≡ 1024 = search rules in
    let cause = subst (λ (n : ℕ). HasCause old new (RefusesLog n log) c.in-Err.error) sized (c.in-Err.ensures.cause.0 clean) in
    subst (λ (f : OpenFault). IsHindrance f ⊎ ((f ≡ Foreign) × ((k : ℕ) → ¬ Replays 1024 log k))) (sym c.fault_from.ensures) (log_refused old new log c.in-Err.error cause)
