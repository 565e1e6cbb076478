use Rattle.std.proofs.Common.{List, length, refl, sym, ap, subst, ◌∙◌, arith}
use Rattle.rs_message.specs.declared.entry.Entry.{Entry}
use Rattle.rs_store.specs.History.{SerialsRise}
use Rattle.rs_version.specs.First.{AreOwn}
use Rattle.rs_version.specs.Writer.{kept_of}
use Rattle.rs_intake.proofs.Writers.{none_taken}
use Rattle.rs_intake.proofs.writer.JobWriter.new.Goals as goal

pub invariant_of-result : goal.invariant_of-result
invariant_of-result g c =
    let q = c.args.queue in
    let count = c.places-left.ensures in
    let none = ap length q.new.1 in
    let began = ap (λ w. kept_of (g.S.StoreWriter.written w)) c.of.ensures in
    let O : List Entry → Type 0 = λ l. AreOwn l in
    let R : List Entry → Type 0 = λ l. SerialsRise l in
    let same = began ∙ ap kept_of c.note_covered-2.ensures.same.0 in
    (q.queue, none_taken _ _ _ q.new.0 (sym began) (subst O (sym same) c.requires.own) (subst R (sym same) c.note_covered-2.ensures.legal.rises) q.lines refl refl, omega (arith, count.0, none), c.note_covered-2.ensures.same.1 ∙ c.requires.ready)

pub returns-clause-under_way : goal.returns-clause-under_way
returns-clause-under_way g c =
    let q = c.args.queue in
    let began = ap (λ w. kept_of (g.S.StoreWriter.written w)) c.of.ensures in
    let O : List Entry → Type 0 = λ l. AreOwn l in
    let R : List Entry → Type 0 = λ l. SerialsRise l in
    let same = began ∙ ap kept_of c.note_covered-2.ensures.same.0 in
    none_taken _ _ _ q.new.0 (sym began) (subst O (sym same) c.requires.own) (subst R (sym same) c.note_covered-2.ensures.legal.rises) q.lines refl refl
