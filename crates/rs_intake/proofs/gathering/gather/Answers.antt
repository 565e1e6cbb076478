use Rattle.std.proofs.Common.{◌≡◌, ◌+◌, ◌≤◌, ◌++◌, List, [], ◌∷◌, length, refl, sym, ap, subst, length-append, arith}
use Rattle.std.specs.List.{AllByRecursion}
use Rattle.rs_intake_queue.specs.QueueRule.{IsPlaced, ends_of, entries_of}
use Rattle.rs_intake_queue.specs.declared.job.Job.{Job}
use Rattle.rs_intake_queue.specs.declared.job.TheConstants.{MAX_CHANGES}
use Rattle.rs_intake.specs.declared.together.TheConstants.{MAX_TOGETHER}
use Rattle.rs_intake.proofs.Jobs.{all_more, ends_with, entries_count, entries_with}
use Rattle.rs_intake.proofs.gathering.gather.Goals as goal

pub loop-preserved : goal.loop-preserved
loop-preserved g c =
    let i = c.loop.invariant in
    let e = c.in-Some-next_if_any.ensures in
    let job = c.in-Some-next_if_any.job in
    let jobs = c.loop.jobs.jobs in
    let more : c.add-in-loop.new.self.jobs ≡ jobs ++ job ∷ [] = c.add-in-loop.ensures.jobs in
    let room : length (entries_of jobs) + MAX_CHANGES ≤ MAX_TOGETHER = c.if-not-has_room.ensures.few refl in
    let len = c.len.ensures in
    let most = c.if-has_most.ensures.1 in
    let small = c.add-in-loop.ensures.few in
    let count = entries_count jobs job in
    let all = ap (λ (l : List Job). length (entries_of l)) more in
    let n = ap length more in
    let m = length-append jobs (job ∷ []) in
    let E : List Job → Type 0 = λ l. c.next_if_any.new.self.entries ≡ c.args.received.now.entries ++ entries_of l in
    let D : List Job → Type 0 = λ l. c.next_if_any.new.self.ends ≡ c.args.received.now.ends ++ ends_of l in
    let A : List Job → Type 0 = λ l. AllByRecursion (IsPlaced g.N.LineName.places) l in (
      subst E (sym more) (entries_with _ c.loop.received.entries jobs job _ i.0 e.taken.0),
      e.taken.1,
      subst D (sym more) (ends_with _ c.loop.received.ends jobs job _ i.2 e.ended.0),
      e.ended.1,
      subst A (sym more) (all_more (IsPlaced g.N.LineName.places) jobs job i.4 e.placed),
      omega (arith, n, m),
      omega (arith, room, small, count, all),
      omega (arith, len, most, small, count, all),
    )
