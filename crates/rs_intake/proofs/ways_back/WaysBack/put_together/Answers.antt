use Rattle.std.proofs.Common.{◌++◌, ◌+◌, ℕ, List, length, sym, subst}
use Rattle.std.specs.Prelude.{option_to_list}
use Rattle.std.specs.List.{AllByRecursion}
use Rattle.rs_version.specs.Writer.{Written, kept_of}
use Rattle.rs_intake_queue.specs.QueueRule.{IsPlaced, entries_of}
use Rattle.rs_intake_queue.specs.declared.job.Job.{Job}
use Rattle.rs_intake_line.specs.Sending.{AreToPut}
use Rattle.rs_intake_line.specs.Sweeps.{IsKeptFrom}
use Rattle.rs_intake.specs.Together.{jobs_of}
use Rattle.rs_intake.specs.Writers.{AreJobsDone}
use Rattle.rs_intake.proofs.Jobs.{all_back, all_front, jobs_append, jobs_kept_from, jobs_ways, last_rise, left_together}
use Rattle.rs_intake.proofs.ways_back.WaysBack.put_together.Goals as goal

pub make_ready_for-requires-clause-left : goal.make_ready_for-requires-clause-left
make_ready_for-requires-clause-left g c =
    let r = c.requires.rises in
    let e = c.into_parts-parts.ensures in
    left_together _ r.0 _ c.into_parts-parts.result.0.items c.into_parts-parts.result.1.items c.args.jobs.jobs _ r.1 r.2 e.jobs e.parts

pub put_parts-refused-requires-clause-placed : goal.put_parts-refused-requires-clause-placed
put_parts-refused-requires-clause-placed g c =
    let A : List Job → Type 0 = λ l. AllByRecursion (IsPlaced (length c.args.self.now.senders.items)) l in
    all_front (IsPlaced (length c.args.self.now.senders.items)) _ (option_to_list c.into_parts-parts.result.2) (subst A c.into_parts-parts.ensures.jobs c.requires.placed)

pub put_parts-refused-requires-clause-left : goal.put_parts-refused-requires-clause-left
put_parts-refused-requires-clause-left g c =
    let r = c.requires.rises in
    let e = c.into_parts-parts.ensures in
    let P : Written → Type 0 = λ v. AreToPut g.N.StoreName.limit (kept_of v) c.into_parts-parts.result.1.items in
    subst P (sym c.make_ready_for.ensures.same) (left_together _ r.0 _ c.into_parts-parts.result.0.items c.into_parts-parts.result.1.items c.args.jobs.jobs _ r.1 r.2 e.jobs e.parts)

pub put_last-requires-clause-placed : goal.put_last-requires-clause-placed
put_last-requires-clause-placed g c =
    let last = option_to_list c.into_parts-parts.result.2 in
    let A : List Job → Type 0 = λ l. AllByRecursion (IsPlaced (length c.args.self.now.senders.items)) l in
    let N : ℕ → Type 0 = λ n. AllByRecursion (IsPlaced n) last in
    subst N (sym (jobs_ways _ _ _ _ _ _ _ _ c.put_parts-refused.ensures.done))
    (all_back (IsPlaced (length c.args.self.now.senders.items)) _ last (subst A c.into_parts-parts.ensures.jobs c.requires.placed))

pub put_last-requires-clause-rises : goal.put_last-requires-clause-rises
put_last-requires-clause-rises g c =
    let r = c.requires.rises in
    let e = c.into_parts-parts.ensures in
    let first = jobs_of c.into_parts-parts.result.0.items c.into_parts-parts.result.1.items in
    let K : Written → Type 0 = λ v. IsKeptFrom g.N.StoreName.limit r.0 (kept_of v) in
    let kept = subst K (sym c.make_ready_for.ensures.same) r.1 in (
      r.0 ++ entries_of first,
      jobs_kept_from _ _ r.0 _ _ first _ _ _ kept c.put_parts-refused.ensures.done,
      last_rise r.0 c.args.jobs.jobs first _ e.jobs r.2,
    )

pub returns-clause-done : goal.returns-clause-done
returns-clause-done g c =
    let last = option_to_list c.into_parts-parts.result.2 in
    let first = jobs_of c.into_parts-parts.result.0.items c.into_parts-parts.result.1.items in
    let n = c.put_parts-refused.result in
    let w = g.S.StoreWriter.written c.put_parts-refused.new.writer in
    let ways = c.put_parts-refused.new.self.senders.items in
    let F : Written → Type 0 = λ v. AreJobsDone g.N.StoreName.limit g.S.StoreWriter.most_held v c.args.self.now.senders.items first n w ways in
    let J : List Job → Type 0 = λ l. AreJobsDone g.N.StoreName.limit g.S.StoreWriter.most_held (g.S.StoreWriter.written c.args.writer.now) c.args.self.now.senders.items l (n + c.put_last.result) (g.S.StoreWriter.written c.put_last.new.writer) c.put_last.new.self.senders.items in
    subst J (sym c.into_parts-parts.ensures.jobs)
    (jobs_append _ _ _ _ first n w ways last _ _ _ (subst F c.make_ready_for.ensures.same c.put_parts-refused.ensures.done) c.put_last.ensures.done)
