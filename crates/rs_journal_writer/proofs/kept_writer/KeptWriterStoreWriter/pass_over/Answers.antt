use Rattle.std.proofs.Common.{◌∷◌, ◌++◌, ◌∙◌, ◌-◌, [], List, ap, arith, drop, refl, subst}
use Rattle.rs_message.specs.declared.entry.Entry.{Entry}
use Rattle.rs_store.specs.History.{IsLegal, extended}
use Rattle.rs_version.specs.Writer.{Written, kept_of}
use Rattle.rs_journal_writer.specs.Keeping.{KeptValue}
use Rattle.rs_journal_writer.proofs.Moving.{moves_none}
use Rattle.rs_journal_writer.proofs.Parts.{next_legal, next_of, next_parts, none_ready, put_ready, ready_some}
use Rattle.rs_journal_writer.proofs.kept_writer.KeptWriterStoreWriter.pass_over.Goals as goal

pub returns-clause-ready : goal.returns-clause-ready
returns-clause-ready g c =
    let s = c.self.inside in
    let e = c.args.entry in
    let there = c.self.invariant.counted in
    let next = next_of c.args.self.now.ready e c.requires.next
    (λ none. let zero = none_ready s.waiting.items s.ready there (ap (λ (k : KeptValue). k.ready) c.self.view_is ∙ none) in absurd (c.if-self-eq0.false zero)) in
    let rest = next.0 in
    let ready = ap (λ (k : KeptValue). k.ready) c.self.view_is ∙ next.1 in
    let is = ready_some s.waiting.items rest s.ready e there ready in
    (put_ready s.writer s.writer s.waiting.items s.waiting.items rest s.ready (s.ready - 1) e (moves_none s.writer s.writer s.waiting.items refl) is there (omega (arith, is, there)) ready).1
    ∙ ap (λ (k : KeptValue). drop 1 k.ready) c.self.view_is

pub returns-clause-passed : goal.returns-clause-passed
returns-clause-passed g c =
    let s = c.self.inside in
    let e = c.args.entry in
    let there = c.self.invariant.counted in
    let next = next_of c.args.self.now.ready e c.requires.next
    (λ none. let zero = none_ready s.waiting.items s.ready there (ap (λ (k : KeptValue). k.ready) c.self.view_is ∙ none) in absurd (c.if-self-eq0.false zero)) in
    let rest = next.0 in
    let ready = ap (λ (k : KeptValue). k.ready) c.self.view_is ∙ next.1 in
    let is = ready_some s.waiting.items rest s.ready e there ready in
    let now = ap (λ (k : KeptValue). k.written) c.self.view_is in
    let limit = g.N.StoreName.limit in
    let W : List Entry → Written = λ h. record { published = s.writer.published; held = h } in
    let next_held = (next_parts s.writer s.waiting.items rest s.ready (s.ready - 1) e is there ready).2 in (
      subst (λ (w : Written). IsLegal limit (extended (kept_of w) e)) now (next_legal limit s.writer s.waiting.items rest s.ready e c.self.invariant.legal ready),
      ap W next_held ∙ ap (λ (w : Written). let v : Written = record { published = w.published; held = w.held ++ e ∷ [] } in v) now,
    )
