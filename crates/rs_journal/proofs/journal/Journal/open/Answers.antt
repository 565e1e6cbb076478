use Rattle.std.proofs.Common.{ℕ, List, map, subst}
use Rattle.sqlite_wal.specs.Files.{seen_image}
use Rattle.sqlite_wal.proofs.StateLemmas.{AddsNothing-fewer, AddsNothing-trans}
use Rattle.rs_journal.specs.Images.{StandsFor, outcomes_of}
use Rattle.rs_journal.specs.Streams.{may_leave}
use Rattle.rs_journal.proofs.CheckLemmas.{clean_out, kept_out}
use Rattle.rs_journal.proofs.StandsLemmas.{rests_like}
use Rattle.rs_journal.proofs.CrashLemmas.{each_at_rest}
use Rattle.rs_journal.specs.Frames.{frames}
use Rattle.rs_journal.proofs.FrameLemmas.{each_from_mapped, each_mapped, explained, stands_for_none}
use Rattle.rs_journal.proofs.OpenLemmas.{each_fewer}
use Rattle.rs_journal.proofs.journal.Journal.open.Goals as goal

pub returns-in-Ok-read_stream-clause-found : goal.returns-in-Ok-read_stream-clause-found
returns-in-Ok-read_stream-clause-found g c =
    let old = c.args.files in
    let found = c.in-Ok.ensures.found in
    let read = c.in-Ok-read_stream.ensures.read in (
      read.0,
      read.1,
      read.2,
      λ clean. subst (λ (s : List ℕ). StandsFor (seen_image g.D.Disk old.log old.db) s) (read.3 found.0 found.2 c.in-Ok.ensures.open clean) (found.1 (c.read_stream.ensures.clean clean)),
      rests_like _ found.0 (frames read.0) (c.read_stream.ensures.rests found.0 found.2) (λ clean. read.3 found.0 found.2 c.in-Ok.ensures.open clean),
    )

pub returns-in-Ok-read_stream-clause-open : goal.returns-in-Ok-read_stream-clause-open
returns-in-Ok-read_stream-clause-open g c = c.read_stream.ensures.open c.in-Ok.ensures.open

pub returns-in-Ok-read_stream-clause-opens_none : goal.returns-in-Ok-read_stream-clause-opens_none
returns-in-Ok-read_stream-clause-opens_none g c = λ clean. c.in-Ok.ensures.opens_none (c.read_stream.ensures.clean clean)

pub returns-in-Ok-read_stream-clause-untouched : goal.returns-in-Ok-read_stream-clause-untouched
returns-in-Ok-read_stream-clause-untouched g c = λ made.
    let old = c.args.files in
    AddsNothing-trans 1024 (outcomes_of g.D.Disk old.log old.db) (may_leave c.in-Ok.stream) (may_leave c.read_stream.new.self.stream) (c.in-Ok.ensures.untouched made) c.read_stream.ensures.crash

pub returns-in-Ok-read_stream-clause-crash : goal.returns-in-Ok-read_stream-clause-crash
returns-in-Ok-read_stream-clause-crash g c = λ lists each.
    let old = c.args.files in
    let found = c.in-Ok.ensures.found in
    each_from_mapped (may_leave c.read_stream.new.self.stream) lists
    (each_at_rest c.in-Ok.stream c.read_stream.new.self.stream found.0 (map frames lists) g.met.D.Disk.seen_may_stay found.2 (c.read_stream.ensures.rests found.0 found.2) c.read_stream.ensures.clean
    (c.in-Ok.ensures.crash (map frames lists) (each_mapped (outcomes_of g.D.Disk old.log old.db) lists each)))

-- not read
pub returns-in-Err-read_stream-clause-refused : goal.returns-in-Err-read_stream-clause-refused
returns-in-Err-read_stream-clause-refused g c = λ refusal clean operations are.
    let old = c.args.files in
    let found = c.in-Ok.ensures.found in
    let back = c.close.result in
    let was = clean_out c.read_stream.new.self.stream.pager back.log back.db c.close.ensures clean in
    stands_for_none c.in-Err-read_stream.fault (seen_image g.D.Disk old.log old.db) found.0 operations (found.1 (c.read_stream.ensures.clean was))
    (c.in-Err-read_stream.ensures.refused found.0 found.2 c.in-Ok.ensures.open was) refusal are

pub returns-in-Err-read_stream-clause-named : goal.returns-in-Err-read_stream-clause-named
returns-in-Err-read_stream-clause-named g c = λ clean.
    let old = c.args.files in
    let found = c.in-Ok.ensures.found in
    let back = c.close.result in
    let was = clean_out c.read_stream.new.self.stream.pager back.log back.db c.close.ensures clean in
    explained c.in-Err-read_stream.fault (seen_image g.D.Disk old.log old.db) found.0 (found.1 (c.read_stream.ensures.clean was)) (c.in-Err-read_stream.ensures.refused found.0 found.2 c.in-Ok.ensures.open was)

pub returns-in-Err-read_stream-clause-spares : goal.returns-in-Err-read_stream-clause-spares
returns-in-Err-read_stream-clause-spares g c = λ clean spared.
    let back = c.close.result in
    let was = clean_out c.read_stream.new.self.stream.pager back.log back.db c.close.ensures clean in
    absurd (c.in-Ok.ensures.opens_none (c.read_stream.ensures.clean was) spared)

pub returns-in-Err-read_stream-clause-left_alone : goal.returns-in-Err-read_stream-clause-left_alone
returns-in-Err-read_stream-clause-left_alone g c = λ made.
    let old = c.args.files in
    let back = c.close.result in
    let last = c.read_stream.new.self.stream in
    AddsNothing-trans 1024 (outcomes_of g.D.Disk old.log old.db) (may_leave last) (outcomes_of g.D.Disk back.log back.db)
    (AddsNothing-trans 1024 (outcomes_of g.D.Disk old.log old.db) (may_leave c.in-Ok.stream) (may_leave last) (c.in-Ok.ensures.untouched made) c.read_stream.ensures.crash)
    (AddsNothing-fewer 1024 (may_leave last) (outcomes_of g.D.Disk back.log back.db) (kept_out last.pager back.log back.db c.close.ensures).leaves)

pub returns-in-Err-read_stream-clause-leaves : goal.returns-in-Err-read_stream-clause-leaves
returns-in-Err-read_stream-clause-leaves g c = λ lists each.
    let old = c.args.files in
    let back = c.close.result in
    let last = c.read_stream.new.self.stream in
    let found = c.in-Ok.ensures.found in
    each_from_mapped (outcomes_of g.D.Disk back.log back.db) lists
    (each_fewer (may_leave last) (outcomes_of g.D.Disk back.log back.db) (map frames lists) (kept_out last.pager back.log back.db c.close.ensures).leaves
    (each_at_rest c.in-Ok.stream last found.0 (map frames lists) g.met.D.Disk.seen_may_stay found.2 (c.read_stream.ensures.rests found.0 found.2) c.read_stream.ensures.clean
    (c.in-Ok.ensures.crash (map frames lists) (each_mapped (outcomes_of g.D.Disk old.log old.db) lists each))))

-- not opened
pub returns-in-Err-clause-refused : goal.returns-in-Err-clause-refused
returns-in-Err-clause-refused g c = λ refusal clean operations are. c.in-Err.ensures.refused refusal clean (frames operations)

pub returns-in-Err-clause-leaves : goal.returns-in-Err-clause-leaves
returns-in-Err-clause-leaves g c = λ lists each.
    let old = c.args.files in
    let back = c.in-Err.refused.files in
    each_from_mapped (outcomes_of g.D.Disk back.log back.db) lists (c.in-Err.ensures.leaves (map frames lists) (each_mapped (outcomes_of g.D.Disk old.log old.db) lists each))
