use Rattle.std.proofs.Common.{◌+◌, ℕ, List, length, refl, ap, subst, ◌∙◌, arith}
use Rattle.rs_version.specs.Writer.{kept_of}
use Rattle.rs_intake.specs.Causes.{HaveEnded}
use Rattle.rs_intake.specs.Writers.{WriterValue}
use Rattle.rs_intake.proofs.Causes.{all_ended, few_ends, none_to_end}
use Rattle.rs_intake.proofs.Writers.{ended_cause, job_put, job_rises, last_end, more_to_end, no_cause, no_end, none_asked, one_end, refused_few, under_way_same}
use Rattle.rs_intake.proofs.Jobs.{step_end, step_last, step_more, step_put}
use Rattle.rs_intake.proofs.writer.JobWriter.step.Goals as goal
use Rattle.rs_intake.proofs.writer.JobWriter.step.Goals.{then-self-eq0, else-self-eq0}

pub put_job-count-requires-clause-rises : goal.put_job-count-requires-clause-rises
put_job-count-requires-clause-rises g c =
    let e = c.in-Ok-Put.ensures in
    job_rises g.N.StoreName.limit g.N.LineName.places _ _ _ c.in-Ok-Put.changes c.in-Ok-Put.field-0-is e.taken.0 e.taken.1 e.placed c.self.invariant.1

pub overflow_add-self-in-Ok-Put : goal.overflow_add-self-in-Ok-Put
overflow_add-self-in-Ok-Put g c =
    let d = c.put_job-count.ensures.replied in
    let e = c.in-Ok-Put.ensures in
    let i = c.self.inside in
    let put = job_put g.N.StoreName.limit g.N.LineName.places _ record { first = kept_of (g.S.StoreWriter.written i.began.value); writer = g.S.StoreWriter.written c.put_job-count.new.writer; received = c.next.new.self; ways = c.put_job-count.new.self.senders.items; taken = i.taken + c.len.result; refused = i.refused + c.put_job-count.result } _ c.in-Ok-Put.changes c.len.result c.put_job-count.result
    refl c.in-Ok-Put.field-0-is e.taken.0 e.placed c.len.ensures.changes d.0 d.1 d.2 c.len.ensures.len refl refl c.self.invariant.1 in
    let less = refused_few _ _ _ put in
    let len = c.len.ensures.len in
    let few = c.len.ensures.changes.few in
    let fits = c.if-has_most.ensures.1 in
    omega (arith, less, len, few, fits)

pub invariant_of-self : goal.invariant_of-self
invariant_of-self g c =
    let d = c.put_job-count.ensures.replied in
    let e = c.in-Ok-Put.ensures in
    let i = c.self.inside in (
      c.self.invariant.0,
      job_put g.N.StoreName.limit g.N.LineName.places _ _ _ c.in-Ok-Put.changes c.len.result c.put_job-count.result refl c.in-Ok-Put.field-0-is e.taken.0 e.placed c.len.ensures.changes d.0 d.1 d.2 c.len.ensures.len refl refl c.self.invariant.1,
      ap (λ (l : List ℕ). i.left + length l) (no_end i.received.ends c.next.new.self.ends _ c.in-Ok-Put.changes e.ended.0 c.in-Ok-Put.field-0-is) ∙ c.self.invariant.2,
      c.put_job-count.ensures.ready,
    )

pub returns-in-Ok-Put-clause-under_way : goal.returns-in-Ok-Put-clause-under_way
returns-in-Ok-Put-clause-under_way g c =
    let d = c.put_job-count.ensures.replied in
    let e = c.in-Ok-Put.ensures in
    job_put g.N.StoreName.limit g.N.LineName.places _ _ _ c.in-Ok-Put.changes c.len.result c.put_job-count.result refl c.in-Ok-Put.field-0-is e.taken.0 e.placed c.len.ensures.changes d.0 d.1 d.2 c.len.ensures.len refl refl c.self.invariant.1

pub overflow_sub-self : goal.overflow_sub-self
overflow_sub-self g c =
    let e = c.in-Ok-End.ensures.ended in
    let more = one_end c.self.inside.received.ends c.next.new.self.ends _ _ e.0 c.in-Ok-End.field-0-is in
    let few = few_ends g.N.LineName.places c.next.new.self.ends e.1 in
    let all = c.self.invariant.2 in
    omega (arith, more, few, all)

pub invariant_of-self-in-Ok-End : goal.invariant_of-self-in-Ok-End
invariant_of-self-in-Ok-End g c =
    let i = c.self.inside in
    let e = c.in-Ok-End.ensures.ended in
    let same = none_asked i.received.entries c.next.new.self.entries _ _ c.in-Ok-End.ensures.taken.0 c.in-Ok-End.field-0-is in
    let more = one_end i.received.ends c.next.new.self.ends _ _ e.0 c.in-Ok-End.field-0-is in
    let few = few_ends g.N.LineName.places c.next.new.self.ends e.1 in
    let all = c.self.invariant.2 in (
      c.self.invariant.0,
      under_way_same g.N.StoreName.limit g.N.LineName.places _ _ refl same refl refl refl refl c.self.invariant.1,
      omega (arith, more, few, all),
      c.self.invariant.3,
    )

pub returns-after-self-eq0-clause-cause : goal.returns-after-self-eq0-clause-cause
returns-after-self-eq0-clause-cause g c =
    let e = c.in-Ok-End.ensures.ended in
    let more = one_end c.self.inside.received.ends c.next.new.self.ends _ _ e.0 c.in-Ok-End.field-0-is in
    let few = few_ends g.N.LineName.places c.next.new.self.ends e.1 in
    let all = c.self.invariant.2 in
    elim c.if-self-eq0.branch [
      | then-self-eq0 w ↦ let last = w.if-self-eq0.true in ended_cause g.N.LineName.places c.args.most c.next.new.self _ w.result-is (all_ended g.N.LineName.places c.next.new.self.ends e.1 (omega (arith, more, few, last, all)))
      | else-self-eq0 w ↦ no_cause g.N.LineName.places c.args.most c.next.new.self _ w.result-is
    ]

pub returns-in-Ok-Put-clause-more : goal.returns-in-Ok-Put-clause-more
returns-in-Ok-Put-clause-more g c =
    let e = c.in-Ok-Put.ensures in
    let same = no_end c.self.inside.received.ends c.next.new.self.ends _ c.in-Ok-Put.changes e.ended.0 c.in-Ok-Put.field-0-is in
    let was = ap (λ (w : WriterValue). w.received.ends) c.self.view_is in
    let E : List ℕ → Type 0 = λ l. HaveEnded g.N.LineName.places l in
    λ (ended : E c.next.new.self.ends). subst E was (subst E same ended)

pub returns-after-self-eq0-clause-more : goal.returns-after-self-eq0-clause-more
returns-after-self-eq0-clause-more g c =
    let e = c.in-Ok-End.ensures.ended in
    let more = one_end c.self.inside.received.ends c.next.new.self.ends _ _ e.0 c.in-Ok-End.field-0-is in
    let few = few_ends g.N.LineName.places c.next.new.self.ends e.1 in
    let all = c.self.invariant.2 in
    elim c.if-self-eq0.branch [
      | then-self-eq0 w ↦ last_end g.N.LineName.places c.args.self.now.received.ends c.next.new.self.ends _ w.result-is
      | else-self-eq0 w ↦
          let left = w.if-self-eq0.false in
          more_to_end g.N.LineName.places c.args.self.now.received.ends c.next.new.self.ends _ w.result-is (λ ended. let whole = none_to_end g.N.LineName.places c.next.new.self.ends e.1 ended in absurd (omega (arith, more, few, left, all, whole)))
    ]

pub returns-in-Ok-Put-clause-step : goal.returns-in-Ok-Put-clause-step
returns-in-Ok-Put-clause-step g c =
    let d = c.put_job-count.ensures.replied in
    let e = c.in-Ok-Put.ensures in
    step_put _ g.N.StoreName.limit g.N.LineName.places _ c.args.self.now _ _ c.in-Ok-Put.changes c.len.result c.put_job-count.result c.self.view_is refl c.in-Ok-Put.field-0-is e.taken.0 e.ended.0 e.placed c.len.ensures.changes d.0 d.1 d.2 c.len.ensures.len refl refl

pub returns-after-self-eq0-clause-step : goal.returns-after-self-eq0-clause-step
returns-after-self-eq0-clause-step g c =
    let i = c.self.inside in
    let e = c.in-Ok-End.ensures in
    let after : WriterValue = record { first = kept_of (g.S.StoreWriter.written i.began.value); writer = g.S.StoreWriter.written i.writer; received = c.next.new.self; ways = i.ways.senders.items; taken = i.taken; refused = i.refused } in
    let s = step_end g.S.StoreWriter.most_held g.N.StoreName.limit g.N.LineName.places _ c.args.self.now after _ _ c.self.view_is refl c.in-Ok-End.field-0-is e.taken.0 e.ended.0 e.placed refl refl refl refl in
    elim c.if-self-eq0.branch [
      | then-self-eq0 w ↦ step_last g.N.StoreName.limit g.S.StoreWriter.most_held g.N.LineName.places c.args.self.now after _ w.result-is s
      | else-self-eq0 w ↦ step_more g.N.StoreName.limit g.S.StoreWriter.most_held g.N.LineName.places c.args.self.now after _ w.result-is s
    ]
