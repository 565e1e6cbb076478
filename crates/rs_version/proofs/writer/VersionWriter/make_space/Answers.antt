use Rattle.std.proofs.Common.{MatchOption, subst, sym, ◌∙◌}
use Rattle.std.specs.Prelude.{Option}
use Rattle.rs_message.specs.declared.entry.Entry.{Entry}
use Rattle.rs_store.specs.History.{IsLegal, extended}
use Rattle.rs_version.specs.Writer.{Declines, Precedes, Written}
use Rattle.rs_version.proofs.WriterState.{declines_refuses, precedes_legal, swept_ready, swept_refuses}
use Rattle.rs_version.proofs.writer.VersionWriter.make_space.Goals as goal

pub put_legal-requires-clause-legal : goal.put_legal-requires-clause-legal
put_legal-requires-clause-legal g c =
    let limit = g.N.StoreName.limit in
    let P : Option Entry → Type 0 = λ o. MatchOption o (IsLegal limit (extended c.release.new.self.published c.args.entry.now)) (λ s. Precedes limit c.release.new.self.published c.args.entry.now s) in
    let Q : Written → Type 0 = λ z. Precedes limit z.published c.args.entry.now c.in-Ok-Some.sweep in
    precedes_legal limit c.judge.new.self.published c.args.entry.now c.in-Ok-Some.sweep (subst Q (sym c.in-Ok-Some.ensures.same) (subst P c.in-Ok-Some.field-0-is c.in-Ok-Some.ensures.judged))

pub returns-in-Ok-put_legal-clause-ready : goal.returns-in-Ok-put_legal-clause-ready
returns-in-Ok-put_legal-clause-ready g c =
    let limit = g.N.StoreName.limit in
    let P : Option Entry → Type 0 = λ o. MatchOption o (IsLegal limit (extended c.release.new.self.published c.args.entry.now)) (λ s. Precedes limit c.release.new.self.published c.args.entry.now s) in
    let Q : Written → Type 0 = λ z. Precedes limit z.published c.args.entry.now c.in-Ok-Some.sweep in
    swept_ready limit c.args.self.now c.judge.new.self c.put_legal.new.self c.args.entry.now c.in-Ok-Some.sweep (c.in-Ok-Some.ensures.same ∙ c.in-Ok.ensures.1)
    (subst Q (sym c.in-Ok-Some.ensures.same) (subst P c.in-Ok-Some.field-0-is c.in-Ok-Some.ensures.judged))
    c.in-Ok-put_legal.ensures

pub returns-in-Err-put_legal-clause-refused : goal.returns-in-Err-put_legal-clause-refused
returns-in-Err-put_legal-clause-refused g c =
    let limit = g.N.StoreName.limit in
    let P : Option Entry → Type 0 = λ o. MatchOption o (IsLegal limit (extended c.release.new.self.published c.args.entry.now)) (λ s. Precedes limit c.release.new.self.published c.args.entry.now s) in
    let Q : Written → Type 0 = λ z. Precedes limit z.published c.args.entry.now c.in-Ok-Some.sweep in
    swept_refuses limit c.args.self.now c.judge.new.self c.put_legal.new.self c.args.entry.now c.in-Ok-Some.sweep (c.in-Ok-Some.ensures.same ∙ c.in-Ok.ensures.1)
    (subst Q (sym c.in-Ok-Some.ensures.same) (subst P c.in-Ok-Some.field-0-is c.in-Ok-Some.ensures.judged))
    c.in-Err-put_legal.ensures

pub returns-in-Err-judge-clause-refused : goal.returns-in-Err-judge-clause-refused
returns-in-Err-judge-clause-refused g c =
    let limit = g.N.StoreName.limit in
    let D : Written → Type 0 = λ z. Declines limit z.published c.args.entry.now c.in-Err-judge.fault in
    declines_refuses limit c.args.self.now c.judge.new.self c.args.entry.now c.in-Err-judge.fault (c.in-Err-judge.ensures.same ∙ c.in-Ok.ensures.1) (subst D (sym c.in-Err-judge.ensures.same) c.in-Err-judge.ensures.judged)
