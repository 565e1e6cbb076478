use Rattle.std.proofs.Common.{◌≡◌, ◌+◌, ◌++◌, ℕ, List, length, refl, ap, subst, ◌∙◌, append-nil, length-append, arith}
use Rattle.std.proofs.lemmas.List.{nil_from_length}
use Rattle.rs_version.specs.Writer.{kept_of}
use Rattle.rs_intake_queue.specs.QueueRule.{ends_of}
use Rattle.rs_intake.specs.Causes.{HaveEnded}
use Rattle.rs_intake.specs.Writers.{WriterValue}
use Rattle.rs_intake.proofs.Causes.{all_ended, few_ends, none_to_end}
use Rattle.rs_intake.proofs.Jobs.{jobs_rise, jobs_under_way}
use Rattle.rs_intake.proofs.Writers.{ended_cause, last_end, more_to_end, no_cause, refused_few}
use Rattle.rs_intake.proofs.writer.JobWriter.step_together.Goals as goal
use Rattle.rs_intake.proofs.writer.JobWriter.step_together.Goals.{then-self-eq0, else-self-eq0}

pub put_together-count-requires-clause-rises : goal.put_together-count-requires-clause-rises
put_together-count-requires-clause-rises g c =
    let e = c.in-Ok.ensures in
    jobs_rise g.N.StoreName.limit g.N.LineName.places _ _ c.in-Ok.jobs.jobs e.taken.0 e.taken.1 e.placed c.self.invariant.1

pub overflow_add-self-2 : goal.overflow_add-self-2
overflow_add-self-2 g c =
    let e = c.in-Ok.ensures in
    let i = c.self.inside in
    let after : WriterValue = record { first = kept_of (g.S.StoreWriter.written i.began.value); writer = g.S.StoreWriter.written c.put_together-count.new.writer; received = c.gather-gathered.new.received; ways = c.put_together-count.new.self.senders.items; taken = i.taken + c.len.result; refused = i.refused + c.put_together-count.result } in
    let less = refused_few _ _ after (jobs_under_way _ g.N.StoreName.limit g.N.LineName.places _ after c.in-Ok.jobs.jobs c.put_together-count.result refl e.taken.0 e.placed c.put_together-count.ensures.done (ap (λ (n : ℕ). i.taken + n) c.len.ensures) refl c.self.invariant.1) in
    let len = c.len.ensures in
    let counted = e.counted in
    omega (arith, less, len, counted)

pub invariant_of-self-then-not-has_end : goal.invariant_of-self-then-not-has_end
invariant_of-self-then-not-has_end g c =
    let e = c.in-Ok.ensures in
    let i = c.self.inside in
    let none : length (ends_of c.in-Ok.jobs.jobs) ≡ 0 = c.if-not-has_end.ensures in
    let n = ap length e.ended.0 in
    let m = length-append i.received.ends (ends_of c.in-Ok.jobs.jobs) in
    let all = c.self.invariant.2 in (
      c.self.invariant.0,
      jobs_under_way _ g.N.StoreName.limit g.N.LineName.places _ _ c.in-Ok.jobs.jobs c.put_together-count.result refl e.taken.0 e.placed c.put_together-count.ensures.done (ap (λ (n : ℕ). i.taken + n) c.len.ensures) refl c.self.invariant.1,
      omega (arith, n, m, none, all),
      c.put_together-count.ensures.ready,
    )

pub returns-then-not-has_end-clause-more : goal.returns-then-not-has_end-clause-more
returns-then-not-has_end-clause-more g c =
    let i = c.self.inside in
    let none : length (ends_of c.in-Ok.jobs.jobs) ≡ 0 = c.if-not-has_end.ensures in
    let same : c.gather-gathered.new.received.ends ≡ i.received.ends = c.in-Ok.ensures.ended.0 ∙ (ap (λ (l : List ℕ). i.received.ends ++ l) (nil_from_length (ends_of c.in-Ok.jobs.jobs) none) ∙ append-nil i.received.ends) in
    let was = ap (λ (w : WriterValue). w.received.ends) c.self.view_is in
    let E : List ℕ → Type 0 = λ l. HaveEnded g.N.LineName.places l in
    λ (ended : E c.gather-gathered.new.received.ends). subst E was (subst E same ended)

pub returns-then-not-has_end-clause-under_way : goal.returns-then-not-has_end-clause-under_way
returns-then-not-has_end-clause-under_way g c =
    let e = c.in-Ok.ensures in
    let i = c.self.inside in
    jobs_under_way _ g.N.StoreName.limit g.N.LineName.places _ _ c.in-Ok.jobs.jobs c.put_together-count.result refl e.taken.0 e.placed c.put_together-count.ensures.done (ap (λ (n : ℕ). i.taken + n) c.len.ensures) refl c.self.invariant.1

pub overflow_sub-self : goal.overflow_sub-self
overflow_sub-self g c =
    let e = c.in-Ok.ensures.ended in
    let one : length (ends_of c.in-Ok.jobs.jobs) ≡ 1 = c.if-not-has_end.ensures in
    let n = ap length e.0 in
    let m = length-append c.self.inside.received.ends (ends_of c.in-Ok.jobs.jobs) in
    let few = few_ends g.N.LineName.places c.gather-gathered.new.received.ends e.1 in
    let all = c.self.invariant.2 in
    omega (arith, one, n, m, few, all)

pub invariant_of-self-2 : goal.invariant_of-self-2
invariant_of-self-2 g c =
    let e = c.in-Ok.ensures in
    let i = c.self.inside in
    let one : length (ends_of c.in-Ok.jobs.jobs) ≡ 1 = c.if-not-has_end.ensures in
    let n = ap length e.ended.0 in
    let m = length-append i.received.ends (ends_of c.in-Ok.jobs.jobs) in
    let few = few_ends g.N.LineName.places c.gather-gathered.new.received.ends e.ended.1 in
    let all = c.self.invariant.2 in (
      c.self.invariant.0,
      jobs_under_way _ g.N.StoreName.limit g.N.LineName.places _ _ c.in-Ok.jobs.jobs c.put_together-count.result refl e.taken.0 e.placed c.put_together-count.ensures.done (ap (λ (n : ℕ). i.taken + n) c.len.ensures) refl c.self.invariant.1,
      omega (arith, one, n, m, few, all),
      c.put_together-count.ensures.ready,
    )

pub returns-clause-cause : goal.returns-clause-cause
returns-clause-cause g c =
    let e = c.in-Ok.ensures.ended in
    let one : length (ends_of c.in-Ok.jobs.jobs) ≡ 1 = c.if-not-has_end.ensures in
    let n = ap length e.0 in
    let m = length-append c.self.inside.received.ends (ends_of c.in-Ok.jobs.jobs) in
    let few = few_ends g.N.LineName.places c.gather-gathered.new.received.ends e.1 in
    let all = c.self.invariant.2 in
    elim c.if-self-eq0.branch [
      | then-self-eq0 w ↦ let last = w.if-self-eq0.true in ended_cause g.N.LineName.places c.args.most c.gather-gathered.new.received _ w.result-is (all_ended g.N.LineName.places c.gather-gathered.new.received.ends e.1 (omega (arith, one, n, m, few, last, all)))
      | else-self-eq0 w ↦ no_cause g.N.LineName.places c.args.most c.gather-gathered.new.received _ w.result-is
    ]

pub returns-clause-more : goal.returns-clause-more
returns-clause-more g c =
    let e = c.in-Ok.ensures.ended in
    let one : length (ends_of c.in-Ok.jobs.jobs) ≡ 1 = c.if-not-has_end.ensures in
    let n = ap length e.0 in
    let m = length-append c.self.inside.received.ends (ends_of c.in-Ok.jobs.jobs) in
    let few = few_ends g.N.LineName.places c.gather-gathered.new.received.ends e.1 in
    let all = c.self.invariant.2 in
    elim c.if-self-eq0.branch [
      | then-self-eq0 w ↦ last_end g.N.LineName.places c.args.self.now.received.ends c.gather-gathered.new.received.ends _ w.result-is
      | else-self-eq0 w ↦
          let left = w.if-self-eq0.false in
          more_to_end g.N.LineName.places c.args.self.now.received.ends c.gather-gathered.new.received.ends _ w.result-is (λ ended. let whole = none_to_end g.N.LineName.places c.gather-gathered.new.received.ends e.1 ended in absurd (omega (arith, one, n, m, few, left, all, whole)))
    ]

pub returns-clause-under_way : goal.returns-clause-under_way
returns-clause-under_way g c =
    let e = c.in-Ok.ensures in
    let i = c.self.inside in
    jobs_under_way _ g.N.StoreName.limit g.N.LineName.places _ _ c.in-Ok.jobs.jobs c.put_together-count.result refl e.taken.0 e.placed c.put_together-count.ensures.done (ap (λ (n : ℕ). i.taken + n) c.len.ensures) refl c.self.invariant.1
