use Rattle.std.proofs.Common.{◌≡◌, ◌∙◌, ◌∷◌, ◌-◌, List, ap, arith, drop, length, refl, subst, sym}
use Rattle.rs_message.specs.declared.entry.Entry.{Entry}
use Rattle.rs_store.specs.History.{IsLegal, extended}
use Rattle.rs_version.specs.Writer.{IsHeldBehind, Written, kept_of, shows}
use Rattle.rs_journal_writer.specs.Keeping.{KeptValue}
use Rattle.rs_journal_writer.specs.State.{written_in}
use Rattle.rs_journal_writer.proofs.Moving.{left_some, moves_none, moves_trans}
use Rattle.rs_journal_writer.proofs.Parts.{keeping_less, keeping_moved, next_is, next_legal, next_whole, put_held, put_ready, put_shown, ready_some}
use Rattle.rs_journal_writer.proofs.kept_writer.KeptWriter.put_ready.Goals as goal

pub returns-then-self-clause-ready : goal.returns-then-self-clause-ready
returns-then-self-clause-ready g c =
    let s = c.self.inside in
    let e = c.args.entry in
    let rest = c.requires.0 in
    let there = c.self.invariant.counted in
    let ready = ap (λ (k : KeptValue). k.ready) c.self.view_is ∙ c.requires.1 in
    let now = ap (λ (k : KeptValue). k.written) c.self.view_is in
    let is = ready_some s.waiting.items rest s.ready e there ready in
    (put_ready s.writer s.writer s.waiting.items s.waiting.items rest s.ready (s.ready - 1) e (moves_none s.writer s.writer s.waiting.items refl) is there (omega (arith, is, there)) ready).1 ∙ ap (λ (k : KeptValue). drop 1 k.ready) c.self.view_is

pub returns-then-self-clause-may : goal.returns-then-self-clause-may
returns-then-self-clause-may g c =
    let s = c.self.inside in
    let e = c.args.entry in
    let rest = c.requires.0 in
    let there = c.self.invariant.counted in
    let ready = ap (λ (k : KeptValue). k.ready) c.self.view_is ∙ c.requires.1 in
    let now = ap (λ (k : KeptValue). k.written) c.self.view_is in
    let is = ready_some s.waiting.items rest s.ready e there ready in
    subst (λ (w : Written). IsLegal g.N.StoreName.limit (extended (kept_of w) e)) now (next_legal g.N.StoreName.limit s.writer s.waiting.items rest s.ready e c.self.invariant.legal ready)

pub returns-then-self-clause-refused : goal.returns-then-self-clause-refused
returns-then-self-clause-refused g c =
    let s = c.self.inside in
    let e = c.args.entry in
    let rest = c.requires.0 in
    let there = c.self.invariant.counted in
    let ready = ap (λ (k : KeptValue). k.ready) c.self.view_is ∙ c.requires.1 in
    let now = ap (λ (k : KeptValue). k.written) c.self.view_is in
    let is = ready_some s.waiting.items rest s.ready e there ready in (
      refl,
      subst (λ (w : Written). IsHeldBehind (kept_of w) w e (written_in s.writer s.waiting.items (s.ready - 1))) now
          (put_held s.writer s.writer s.waiting.items s.waiting.items rest s.ready (s.ready - 1) e (moves_none s.writer s.writer s.waiting.items refl) is there (omega (arith, is, there)) (omega (arith, is, there)) ready),
    )

pub returns-in-Err-clause-ready : goal.returns-in-Err-clause-ready
returns-in-Err-clause-ready g c =
    let s = c.self.inside in
    let e = c.args.entry in
    let rest = c.requires.0 in
    let there = c.self.invariant.counted in
    let ready = ap (λ (k : KeptValue). k.ready) c.self.view_is ∙ c.requires.1 in
    let now = ap (λ (k : KeptValue). k.written) c.self.view_is in
    let is = ready_some s.waiting.items rest s.ready e there ready in
    (put_ready s.writer c.publish_held.new.writer s.waiting.items c.publish_held.new.waiting.items rest s.ready (s.ready - 1) e (c.publish_held.ensures.moved) is there (omega (arith, is, c.publish_held.ensures.counted)) ready).1 ∙ ap (λ (k : KeptValue). drop 1 k.ready) c.self.view_is

pub returns-in-Err-clause-may : goal.returns-in-Err-clause-may
returns-in-Err-clause-may g c =
    let s = c.self.inside in
    let e = c.args.entry in
    let rest = c.requires.0 in
    let there = c.self.invariant.counted in
    let ready = ap (λ (k : KeptValue). k.ready) c.self.view_is ∙ c.requires.1 in
    let now = ap (λ (k : KeptValue). k.written) c.self.view_is in
    let is = ready_some s.waiting.items rest s.ready e there ready in
    subst (λ (w : Written). IsLegal g.N.StoreName.limit (extended (kept_of w) e)) now (next_legal g.N.StoreName.limit s.writer s.waiting.items rest s.ready e c.self.invariant.legal ready)

pub returns-in-Err-clause-refused : goal.returns-in-Err-clause-refused
returns-in-Err-clause-refused g c =
    let s = c.self.inside in
    let e = c.args.entry in
    let rest = c.requires.0 in
    let there = c.self.invariant.counted in
    let ready = ap (λ (k : KeptValue). k.ready) c.self.view_is ∙ c.requires.1 in
    let now = ap (λ (k : KeptValue). k.written) c.self.view_is in
    let is = ready_some s.waiting.items rest s.ready e there ready in (
      refl,
      subst (λ (w : Written). IsHeldBehind (kept_of w) w e (written_in c.publish_held.new.writer c.publish_held.new.waiting.items (s.ready - 1))) now
          (put_held s.writer c.publish_held.new.writer s.waiting.items c.publish_held.new.waiting.items rest s.ready (s.ready - 1) e (c.publish_held.ensures.moved) is there (omega (arith, is, c.publish_held.ensures.counted)) (omega (arith, is, c.in-Err.ensures.refused)) ready),
    )

pub publish_next-requires-clause-next : goal.publish_next-requires-clause-next
publish_next-requires-clause-next g c =
    let s = c.self.inside in
    let e = c.args.entry in
    let rest = c.requires.0 in
    let there = c.self.invariant.counted in
    let ready = ap (λ (k : KeptValue). k.ready) c.self.view_is ∙ c.requires.1 in
    let whole = next_whole s.writer c.publish_held.new.writer s.waiting.items c.publish_held.new.waiting.items rest s.ready e c.publish_held.ensures.moved there c.in-Ok.ensures.published.1 ready in
    whole ∙ ap (λ (l : List Entry). e ∷ drop 1 l) (sym whole)

pub invariant_of-self-in-Err-publish_next : goal.invariant_of-self-in-Err-publish_next
invariant_of-self-in-Err-publish_next g c =
    let s = c.self.inside in
    let e = c.args.entry in
    let rest = c.requires.0 in
    let there = c.self.invariant.counted in
    let ready = ap (λ (k : KeptValue). k.ready) c.self.view_is ∙ c.requires.1 in
    let now = ap (λ (k : KeptValue). k.written) c.self.view_is in
    let is = ready_some s.waiting.items rest s.ready e there ready in
    let moved = moves_trans s.writer c.publish_held.new.writer c.publish_next.new.writer s.waiting.items c.publish_held.new.waiting.items c.publish_next.new.waiting.items c.publish_held.ensures.moved c.publish_next.ensures.moved in
    let all = c.in-Ok.ensures.published.1 in
    let left = left_some c.publish_next.new.writer c.publish_held.new.waiting.items c.publish_next.new.waiting.items s.ready (s.ready - 1) all is c.in-Err-publish_next.ensures.refused in
    keeping_moved _ _ s.writer c.publish_next.new.writer s.journal s.waiting.items c.publish_next.new.waiting.items (s.ready - 1) s.in_doubt
    (keeping_less _ _ s.writer s.journal s.waiting.items s.ready (s.ready - 1) s.in_doubt c.self.invariant (omega (arith, is)))
    c.if-self.false moved left.0

pub returns-in-Err-publish_next-clause-ready : goal.returns-in-Err-publish_next-clause-ready
returns-in-Err-publish_next-clause-ready g c =
    let s = c.self.inside in
    let e = c.args.entry in
    let rest = c.requires.0 in
    let there = c.self.invariant.counted in
    let ready = ap (λ (k : KeptValue). k.ready) c.self.view_is ∙ c.requires.1 in
    let now = ap (λ (k : KeptValue). k.written) c.self.view_is in
    let is = ready_some s.waiting.items rest s.ready e there ready in
    let moved = moves_trans s.writer c.publish_held.new.writer c.publish_next.new.writer s.waiting.items c.publish_held.new.waiting.items c.publish_next.new.waiting.items c.publish_held.ensures.moved c.publish_next.ensures.moved in
    let all = c.in-Ok.ensures.published.1 in
    let left = left_some c.publish_next.new.writer c.publish_held.new.waiting.items c.publish_next.new.waiting.items s.ready (s.ready - 1) all is c.in-Err-publish_next.ensures.refused in
    (put_ready s.writer c.publish_next.new.writer s.waiting.items c.publish_next.new.waiting.items rest s.ready (s.ready - 1) e moved is there left.0 ready).1 ∙ ap (λ (k : KeptValue). drop 1 k.ready) c.self.view_is

pub returns-in-Err-publish_next-clause-may : goal.returns-in-Err-publish_next-clause-may
returns-in-Err-publish_next-clause-may g c =
    let s = c.self.inside in
    let e = c.args.entry in
    let rest = c.requires.0 in
    let there = c.self.invariant.counted in
    let ready = ap (λ (k : KeptValue). k.ready) c.self.view_is ∙ c.requires.1 in
    let now = ap (λ (k : KeptValue). k.written) c.self.view_is in
    let is = ready_some s.waiting.items rest s.ready e there ready in
    subst (λ (w : Written). IsLegal g.N.StoreName.limit (extended (kept_of w) e)) now (next_legal g.N.StoreName.limit s.writer s.waiting.items rest s.ready e c.self.invariant.legal ready)

pub returns-in-Err-publish_next-clause-refused : goal.returns-in-Err-publish_next-clause-refused
returns-in-Err-publish_next-clause-refused g c =
    let s = c.self.inside in
    let e = c.args.entry in
    let rest = c.requires.0 in
    let there = c.self.invariant.counted in
    let ready = ap (λ (k : KeptValue). k.ready) c.self.view_is ∙ c.requires.1 in
    let now = ap (λ (k : KeptValue). k.written) c.self.view_is in
    let is = ready_some s.waiting.items rest s.ready e there ready in
    let moved = moves_trans s.writer c.publish_held.new.writer c.publish_next.new.writer s.waiting.items c.publish_held.new.waiting.items c.publish_next.new.waiting.items c.publish_held.ensures.moved c.publish_next.ensures.moved in
    let all = c.in-Ok.ensures.published.1 in
    let left = left_some c.publish_next.new.writer c.publish_held.new.waiting.items c.publish_next.new.waiting.items s.ready (s.ready - 1) all is c.in-Err-publish_next.ensures.refused in (
      refl,
      subst (λ (w : Written). IsHeldBehind (kept_of w) w e (written_in c.publish_next.new.writer c.publish_next.new.waiting.items (s.ready - 1))) now
          (put_held s.writer c.publish_next.new.writer s.waiting.items c.publish_next.new.waiting.items rest s.ready (s.ready - 1) e moved is there left.0 left.1 ready),
    )

pub invariant_of-self-2 : goal.invariant_of-self-2
invariant_of-self-2 g c =
    let s = c.self.inside in
    let e = c.args.entry in
    let rest = c.requires.0 in
    let there = c.self.invariant.counted in
    let ready = ap (λ (k : KeptValue). k.ready) c.self.view_is ∙ c.requires.1 in
    let now = ap (λ (k : KeptValue). k.written) c.self.view_is in
    let is = ready_some s.waiting.items rest s.ready e there ready in
    let moved = moves_trans s.writer c.publish_held.new.writer c.publish_next.new.writer s.waiting.items c.publish_held.new.waiting.items c.publish_next.new.waiting.items c.publish_held.ensures.moved c.publish_next.ensures.moved in
    let all = c.in-Ok.ensures.published.1 in
    let first = ap length c.in-Ok-publish_next.ensures.first in
    let left : length c.publish_next.new.waiting.items ≡ s.ready - 1 = omega (arith, all, is, first) in
    keeping_moved _ _ s.writer c.publish_next.new.writer s.journal s.waiting.items c.publish_next.new.waiting.items (s.ready - 1) s.in_doubt
    (keeping_less _ _ s.writer s.journal s.waiting.items s.ready (s.ready - 1) s.in_doubt c.self.invariant (omega (arith, is)))
    c.if-self.false moved (omega (arith, left))

pub returns-clause-ready : goal.returns-clause-ready
returns-clause-ready g c =
    let s = c.self.inside in
    let e = c.args.entry in
    let rest = c.requires.0 in
    let there = c.self.invariant.counted in
    let ready = ap (λ (k : KeptValue). k.ready) c.self.view_is ∙ c.requires.1 in
    let now = ap (λ (k : KeptValue). k.written) c.self.view_is in
    let is = ready_some s.waiting.items rest s.ready e there ready in
    let moved = moves_trans s.writer c.publish_held.new.writer c.publish_next.new.writer s.waiting.items c.publish_held.new.waiting.items c.publish_next.new.waiting.items c.publish_held.ensures.moved c.publish_next.ensures.moved in
    let all = c.in-Ok.ensures.published.1 in
    let first = ap length c.in-Ok-publish_next.ensures.first in
    let left : length c.publish_next.new.waiting.items ≡ s.ready - 1 = omega (arith, all, is, first) in
    (put_ready s.writer c.publish_next.new.writer s.waiting.items c.publish_next.new.waiting.items rest s.ready (s.ready - 1) e moved is there (omega (arith, left)) ready).1 ∙ ap (λ (k : KeptValue). drop 1 k.ready) c.self.view_is

pub returns-clause-published : goal.returns-clause-published
returns-clause-published g c =
    let s = c.self.inside in
    let e = c.args.entry in
    let rest = c.requires.0 in
    let there = c.self.invariant.counted in
    let ready = ap (λ (k : KeptValue). k.ready) c.self.view_is ∙ c.requires.1 in
    let now = ap (λ (k : KeptValue). k.written) c.self.view_is in
    let is = ready_some s.waiting.items rest s.ready e there ready in
    let moved = moves_trans s.writer c.publish_held.new.writer c.publish_next.new.writer s.waiting.items c.publish_held.new.waiting.items c.publish_next.new.waiting.items c.publish_held.ensures.moved c.publish_next.ensures.moved in
    let all = c.in-Ok.ensures.published.1 in
    let first = ap length c.in-Ok-publish_next.ensures.first in
    let left : length c.publish_next.new.waiting.items ≡ s.ready - 1 = omega (arith, all, is, first) in
    put_shown s.writer c.publish_next.new.writer s.waiting.items c.publish_next.new.waiting.items rest s.ready (s.ready - 1) e moved is there c.in-Ok-publish_next.ensures.none left ready
    ∙ ap (λ (w : Written). shows (extended (kept_of w) e)) now

pub returns-clause-entry : goal.returns-clause-entry
returns-clause-entry g c =
    let s = c.self.inside in
    let e = c.args.entry in
    let rest = c.requires.0 in
    let there = c.self.invariant.counted in
    let ready = ap (λ (k : KeptValue). k.ready) c.self.view_is ∙ c.requires.1 in
    let now = ap (λ (k : KeptValue). k.written) c.self.view_is in
    let is = ready_some s.waiting.items rest s.ready e there ready in
    next_is s.writer c.publish_held.new.writer s.waiting.items c.publish_held.new.waiting.items rest c.publish_next.new.waiting.items s.ready e c.in-Ok-publish_next.receipt.entry c.publish_held.ensures.moved there c.in-Ok.ensures.published.1 ready c.in-Ok-publish_next.ensures.first

pub returns-clause-may : goal.returns-clause-may
returns-clause-may g c =
    let s = c.self.inside in
    let e = c.args.entry in
    let rest = c.requires.0 in
    let there = c.self.invariant.counted in
    let ready = ap (λ (k : KeptValue). k.ready) c.self.view_is ∙ c.requires.1 in
    let now = ap (λ (k : KeptValue). k.written) c.self.view_is in
    let is = ready_some s.waiting.items rest s.ready e there ready in
    subst (λ (w : Written). IsLegal g.N.StoreName.limit (extended (kept_of w) e)) now (next_legal g.N.StoreName.limit s.writer s.waiting.items rest s.ready e c.self.invariant.legal ready)
