use Rattle.std.proofs.Common.{◌≡◌, ◌∙◌, ap, sym, subst}
use Rattle.std.specs.Prelude.{Option, MatchOption}
use Rattle.rs_message.specs.declared.entry.Entry.{Entry}
use Rattle.rs_store.specs.History.{IsLegal, extended}
use Rattle.rs_version.specs.Writer.{Declines, Defers, Precedes, Written, shows}
use Rattle.rs_version.specs.declared.fault.PutFault.TheVariants.{NoMemory}
use Rattle.rs_version.proofs.Holding.{refuses_of}
use Rattle.rs_version.proofs.WriterState.{declines_refuses, precedes_legal, swept_ready, swept_refuses}
use Rattle.rs_journal_writer.specs.Keeping.{KeptValue}
use Rattle.rs_journal_writer.specs.State.{written_in}
use Rattle.rs_journal_writer.proofs.Moving.{deferred_left}
use Rattle.rs_journal_writer.proofs.Parts.{none_waits}
use Rattle.rs_journal_writer.proofs.kept_writer.KeptWriter.make_space.Goals as goal

pub judge-requires : goal.judge-requires
judge-requires g c =
    let s = c.self.inside in
    (none_waits s.writer s.waiting.items s.ready
    (ap (λ (k : KeptValue). k.written.held) c.self.view_is ∙ ap (λ (w : Written). w.held) c.in-Ok.ensures.released)
    (ap (λ (k : KeptValue). k.ready) c.self.view_is ∙ c.in-Ok.ensures.ready)).0

pub add-requires-clause-legal : goal.add-requires-clause-legal
add-requires-clause-legal g c =
    let limit = g.N.StoreName.limit in
    let w = c.self.inside.writer in
    let e = c.args.entry.now in
    let sweep = c.in-Ok-Some.sweep in
    let P : Option Entry → Type 0 = λ o. MatchOption o (IsLegal limit (extended w.published e)) (λ s. Precedes limit w.published e s) in
    let Q : Written → Type 0 = λ z. Precedes limit z.published e sweep in
    precedes_legal limit c.judge.new.self.published e sweep (subst Q (sym c.in-Ok-Some.ensures.same) (subst P c.in-Ok-Some.field-0-is c.in-Ok-Some.ensures.judged))

pub returns-in-Ok-add-clause-ready : goal.returns-in-Ok-add-clause-ready
returns-in-Ok-add-clause-ready g c =
    let limit = g.N.StoreName.limit in
    let s = c.self.inside in
    let e = c.args.entry.now in
    let sweep = c.in-Ok-Some.sweep in
    let then = c.publish_all.new.self.written in
    let P : Option Entry → Type 0 = λ o. MatchOption o (IsLegal limit (extended s.writer.published e)) (λ x. Precedes limit s.writer.published e x) in
    let Q : Written → Type 0 = λ z. Precedes limit z.published e sweep in
    let now : written_in s.writer s.waiting.items s.ready ≡ then = ap (λ (k : KeptValue). k.written) c.self.view_is in
    let same : c.judge.new.self.published ≡ then.published = ap (λ (z : Written). z.published) c.in-Ok-Some.ensures.same ∙ ap (λ (z : Written). z.published) now in
    swept_ready limit c.args.self.now.written then c.add.new.self.written e sweep c.in-Ok.ensures.released
    (subst Q now (subst P c.in-Ok-Some.field-0-is c.in-Ok-Some.ensures.judged))
    (c.in-Ok-add.ensures.published ∙ ap (λ l. shows (extended l sweep)) same)

pub returns-in-Err-add-clause-refused : goal.returns-in-Err-add-clause-refused
returns-in-Err-add-clause-refused g c =
    let limit = g.N.StoreName.limit in
    let s = c.self.inside in
    let e = c.args.entry.now in
    let sweep = c.in-Ok-Some.sweep in
    let then = c.publish_all.new.self.written in
    let P : Option Entry → Type 0 = λ o. MatchOption o (IsLegal limit (extended s.writer.published e)) (λ x. Precedes limit s.writer.published e x) in
    let Q : Written → Type 0 = λ z. Precedes limit z.published e sweep in
    let now : written_in s.writer s.waiting.items s.ready ≡ then = ap (λ (k : KeptValue). k.written) c.self.view_is in
    let same : written_in c.judge.new.self s.waiting.items s.ready ≡ then = ap (λ (z : Written). written_in z s.waiting.items s.ready) c.in-Ok-Some.ensures.same ∙ now in
    refuses_of limit c.args.self.now.written c.add.new.self.written e NoMemory
    (swept_refuses limit c.args.self.now.written then c.add.new.self.written e sweep c.in-Ok.ensures.released
    (subst Q now (subst P c.in-Ok-Some.field-0-is c.in-Ok-Some.ensures.judged))
    (deferred_left then c.add.new.self.written sweep c.in-Err-add.field-0 (subst (λ (z : Written). Defers z sweep c.in-Err-add.field-0 c.add.new.self.written) same c.in-Err-add.ensures.deferred)))

pub returns-in-Err-judge-clause-refused : goal.returns-in-Err-judge-clause-refused
returns-in-Err-judge-clause-refused g c =
    let limit = g.N.StoreName.limit in
    let s = c.self.inside in
    let e = c.args.entry.now in
    let then = c.publish_all.new.self.written in
    let f = c.in-Err-judge.fault in
    let now : written_in s.writer s.waiting.items s.ready ≡ then = ap (λ (k : KeptValue). k.written) c.self.view_is in
    let same : written_in c.judge.new.self s.waiting.items s.ready ≡ then = ap (λ (z : Written). written_in z s.waiting.items s.ready) c.in-Err-judge.ensures.same ∙ now in
    let D : Written → Type 0 = λ z. Declines limit z.published e f in
    refuses_of limit c.args.self.now.written (written_in c.judge.new.self s.waiting.items s.ready) e f
    (declines_refuses limit c.args.self.now.written (written_in c.judge.new.self s.waiting.items s.ready) e f (same ∙ c.in-Ok.ensures.released)
    (subst D (sym same) (subst D now c.in-Err-judge.ensures.judged)))
