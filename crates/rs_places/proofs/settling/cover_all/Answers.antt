use Rattle.std.proofs.Common.{◌<◌, ◌≤◌, ◌∙◌, length, ap, subst, arith}
use mathlib.Core.List.{IsPrefix}
use Rattle.rs_version.specs.Writer.{Written, kept_of}
use Rattle.rs_places.proofs.Whole.{known_all, known_more}
use Rattle.rs_places.proofs.settling.cover_all.Goals as goal

pub loop-end-preserved : goal.loop-end-preserved
loop-end-preserved g c =
    let same = c.loop-end.invariant.0 in
    let there : c.loop-end.end-index < length c.args.ends.now.items = omega (arith, c.loop-end-test.true, ap length c.deref-end-items.ensures.value) in
    let P : Written → Type 0 = λ w. IsPrefix c.end-item.result.told (kept_of w) in (
      c.note_covered-in-loop-end.ensures.same.0 ∙ same,
      c.note_covered-in-loop-end.ensures.same.1 ∙ c.loop-end.invariant.1,
      known_more c.deref-end-items.result.now c.args.ends.now.items (λ end. IsPrefix end.told (kept_of (g.S.StoreWriter.written c.args.writer.now))) c.loop-end.end-index c.end-item.result c.deref-end-items.ensures.value there c.end-item.is
          (subst P same c.note_covered-in-loop-end.ensures.prefix) c.loop-end.invariant.2,
    )

pub returns-clause-known : goal.returns-clause-known
returns-clause-known g c =
    let all : length c.args.ends.now.items ≤ c.loop-end.end-index = omega (arith, c.loop-end-test.false, ap length c.deref-end-items.ensures.value) in
    known_all c.args.ends.now.items (λ end. IsPrefix end.told (kept_of (g.S.StoreWriter.written c.args.writer.now))) c.loop-end.end-index all c.loop-end.invariant.2
