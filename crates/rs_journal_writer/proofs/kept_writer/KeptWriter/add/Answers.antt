use Rattle.std.proofs.Common.{◌∷◌, ◌++◌, ◌∙◌, [], List, ap, length, sym, subst, arith}
use Rattle.rs_message.specs.declared.entry.Entry.{Entry}
use Rattle.rs_store.specs.History.{IsLegal, extended}
use Rattle.rs_version.specs.Writer.{holds_back, shows}
use Rattle.rs_journal.specs.Writing.{IsRefused}
use Rattle.rs_journal.specs.declared.fault.WriteFault.{WriteFault}
use Rattle.rs_journal_writer.specs.Keeping.{KeptValue}
use Rattle.rs_journal_writer.proofs.Moving.{left_one, moves_few}
use Rattle.rs_journal_writer.proofs.Parts.{idle, keeping_doubtful, keeping_moved, keeping_one, keeping_refused, value_legal, one_held, one_is, one_left, one_shown, ready_zero}
use Rattle.rs_journal_writer.proofs.kept_writer.KeptWriter.add.Goals as goal

pub invariant_of-self-in-Err-Refused : goal.invariant_of-self-in-Err-Refused
invariant_of-self-in-Err-Refused g c =
    let s = c.self.inside in
    let i = idle s.writer s.waiting.items s.ready c.args.self.now c.self.view_is c.self.invariant.counted c.requires.none c.requires.ready in
    let refused : IsRefused c.in-Err-Refused.field-0 = subst (λ (e : WriteFault). IsRefused e) (sym c.in-Err-Refused.field-0-is) tt in
    keeping_refused _ _ s.writer s.journal c.keep_all.new.journal s.waiting.items c.clear.new.self.items s.ready s.in_doubt c.self.invariant c.if-self.false i c.clear.ensures.items
    (c.in-Err-Refused.ensures.refused refused)

pub invariant_of-self-in-Err-Doubtful : goal.invariant_of-self-in-Err-Doubtful
invariant_of-self-in-Err-Doubtful g c =
    let s = c.self.inside in
    let i = idle s.writer s.waiting.items s.ready c.args.self.now c.self.view_is c.self.invariant.counted c.requires.none c.requires.ready in
    let one = one_is s.writer s.waiting.items c.push_back.new.self.items s.ready c.args.entry i c.in-Ok.ensures.items in
    let same = ap (λ (k : KeptValue). k.written.published) c.self.view_is in
    let L : List Entry → List Entry → Type 0 = λ p l. IsLegal g.N.StoreName.limit (p ++ l) in
    let legal = subst (λ l. L s.writer.published l) (sym one) (subst (λ p. L p (c.args.entry ∷ [])) (sym same) c.requires.legal) in
    let long = ap length one in
    let zero = i.zero in
    keeping_doubtful _ _ s.writer s.journal c.keep_all.new.journal s.waiting.items c.push_back.new.self.items s.ready s.ready s.in_doubt c.self.invariant c.if-self.false i legal (omega (arith, long)) (omega (arith, zero))
    c.in-Err-Doubtful.ensures.crash

pub returns-in-Err-Doubtful-clause-ready : goal.returns-in-Err-Doubtful-clause-ready
returns-in-Err-Doubtful-clause-ready g c =
    let s = c.self.inside in
    let i = idle s.writer s.waiting.items s.ready c.args.self.now c.self.view_is c.self.invariant.counted c.requires.none c.requires.ready in
    ready_zero c.push_back.new.self.items s.ready i.zero

pub returns-in-Err-Doubtful-clause-deferred : goal.returns-in-Err-Doubtful-clause-deferred
returns-in-Err-Doubtful-clause-deferred g c =
    let s = c.self.inside in
    let i = idle s.writer s.waiting.items s.ready c.args.self.now c.self.view_is c.self.invariant.counted c.requires.none c.requires.ready in
    let one = one_is s.writer s.waiting.items c.push_back.new.self.items s.ready c.args.entry i c.in-Ok.ensures.items in
    let same = ap (λ (k : KeptValue). k.written.published) c.self.view_is in
    one_held s.writer c.push_back.new.self.items s.ready c.args.entry i.held one i.zero ∙ ap (λ (p : List Entry). holds_back p c.args.entry) same

pub publish_first-requires-clause-legal : goal.publish_first-requires-clause-legal
publish_first-requires-clause-legal g c =
    let s = c.self.inside in
    let e = c.args.entry in
    let i = idle s.writer s.waiting.items s.ready c.args.self.now c.self.view_is c.self.invariant.counted c.requires.none c.requires.ready in
    let legal = value_legal g.N.StoreName.limit s.writer s.waiting.items s.ready c.args.self.now e c.self.view_is c.requires.legal in
    (keeping_one _ _ s.writer s.journal c.keep_all.new.journal s.waiting.items c.push_back.new.self.items s.ready e s.in_doubt c.self.invariant c.if-self.false i c.in-Ok.ensures.items legal c.in-Ok-keep_all.ensures.kept).legal

pub invariant_of-self-in-Err-publish_first : goal.invariant_of-self-in-Err-publish_first
invariant_of-self-in-Err-publish_first g c =
    let s = c.self.inside in
    let e = c.args.entry in
    let i = idle s.writer s.waiting.items s.ready c.args.self.now c.self.view_is c.self.invariant.counted c.requires.none c.requires.ready in
    let legal = value_legal g.N.StoreName.limit s.writer s.waiting.items s.ready c.args.self.now e c.self.view_is c.requires.legal in
    let zero = i.zero in
    keeping_moved _ _ s.writer c.publish_first.new.writer c.keep_all.new.journal c.push_back.new.self.items c.publish_first.new.waiting.items s.ready s.in_doubt
    (keeping_one _ _ s.writer s.journal c.keep_all.new.journal s.waiting.items c.push_back.new.self.items s.ready e s.in_doubt c.self.invariant c.if-self.false i c.in-Ok.ensures.items legal c.in-Ok-keep_all.ensures.kept)
    c.if-self.false c.publish_first.ensures.moved (omega (arith, zero))

pub returns-in-Err-publish_first-clause-ready : goal.returns-in-Err-publish_first-clause-ready
returns-in-Err-publish_first-clause-ready g c =
    let s = c.self.inside in
    let e = c.args.entry in
    let i = idle s.writer s.waiting.items s.ready c.args.self.now c.self.view_is c.self.invariant.counted c.requires.none c.requires.ready in
    let legal = value_legal g.N.StoreName.limit s.writer s.waiting.items s.ready c.args.self.now e c.self.view_is c.requires.legal in
    ready_zero c.publish_first.new.waiting.items s.ready i.zero

pub returns-in-Err-publish_first-clause-deferred : goal.returns-in-Err-publish_first-clause-deferred
returns-in-Err-publish_first-clause-deferred g c =
    let s = c.self.inside in
    let e = c.args.entry in
    let i = idle s.writer s.waiting.items s.ready c.args.self.now c.self.view_is c.self.invariant.counted c.requires.none c.requires.ready in
    let legal = value_legal g.N.StoreName.limit s.writer s.waiting.items s.ready c.args.self.now e c.self.view_is c.requires.legal in
    let one = one_is s.writer s.waiting.items c.push_back.new.self.items s.ready e i c.in-Ok.ensures.items in
    let same = ap (λ (k : KeptValue). k.written.published) c.self.view_is in
    let few = moves_few s.writer c.publish_first.new.writer c.push_back.new.self.items c.publish_first.new.waiting.items c.publish_first.ensures.moved in
    one_left s.writer c.publish_first.new.writer c.push_back.new.self.items c.publish_first.new.waiting.items s.ready e c.publish_first.ensures.moved i.held one i.zero
    (left_one s.writer c.publish_first.new.writer c.push_back.new.self.items c.publish_first.new.waiting.items e i.held one few c.in-Err-publish_first.ensures.refused)
    ∙ ap (λ (p : List Entry). holds_back p e) same

pub invariant_of-self-2 : goal.invariant_of-self-2
invariant_of-self-2 g c =
    let s = c.self.inside in
    let e = c.args.entry in
    let i = idle s.writer s.waiting.items s.ready c.args.self.now c.self.view_is c.self.invariant.counted c.requires.none c.requires.ready in
    let legal = value_legal g.N.StoreName.limit s.writer s.waiting.items s.ready c.args.self.now e c.self.view_is c.requires.legal in
    let zero = i.zero in
    keeping_moved _ _ s.writer c.publish_first.new.writer c.keep_all.new.journal c.push_back.new.self.items c.publish_first.new.waiting.items s.ready s.in_doubt
    (keeping_one _ _ s.writer s.journal c.keep_all.new.journal s.waiting.items c.push_back.new.self.items s.ready e s.in_doubt c.self.invariant c.if-self.false i c.in-Ok.ensures.items legal c.in-Ok-keep_all.ensures.kept)
    c.if-self.false c.publish_first.ensures.moved (omega (arith, zero))

pub returns-clause-ready : goal.returns-clause-ready
returns-clause-ready g c =
    let s = c.self.inside in
    let e = c.args.entry in
    let i = idle s.writer s.waiting.items s.ready c.args.self.now c.self.view_is c.self.invariant.counted c.requires.none c.requires.ready in
    let legal = value_legal g.N.StoreName.limit s.writer s.waiting.items s.ready c.args.self.now e c.self.view_is c.requires.legal in
    ready_zero c.publish_first.new.waiting.items s.ready i.zero

pub returns-clause-published : goal.returns-clause-published
returns-clause-published g c =
    let s = c.self.inside in
    let e = c.args.entry in
    let i = idle s.writer s.waiting.items s.ready c.args.self.now c.self.view_is c.self.invariant.counted c.requires.none c.requires.ready in
    let legal = value_legal g.N.StoreName.limit s.writer s.waiting.items s.ready c.args.self.now e c.self.view_is c.requires.legal in
    let one = one_is s.writer s.waiting.items c.push_back.new.self.items s.ready e i c.in-Ok.ensures.items in
    let same = ap (λ (k : KeptValue). k.written.published) c.self.view_is in
    (one_shown s.writer c.publish_first.new.writer c.push_back.new.self.items c.publish_first.new.waiting.items s.ready e c.in-Ok-publish_first.receipt.entry c.publish_first.ensures.moved i.held one i.zero
    c.in-Ok-publish_first.ensures.none c.in-Ok-publish_first.ensures.first).0
    ∙ ap (λ (p : List Entry). shows (extended p e)) same

pub returns-clause-entry : goal.returns-clause-entry
returns-clause-entry g c =
    let s = c.self.inside in
    let e = c.args.entry in
    let i = idle s.writer s.waiting.items s.ready c.args.self.now c.self.view_is c.self.invariant.counted c.requires.none c.requires.ready in
    let legal = value_legal g.N.StoreName.limit s.writer s.waiting.items s.ready c.args.self.now e c.self.view_is c.requires.legal in
    let one = one_is s.writer s.waiting.items c.push_back.new.self.items s.ready e i c.in-Ok.ensures.items in
    (one_shown s.writer c.publish_first.new.writer c.push_back.new.self.items c.publish_first.new.waiting.items s.ready e c.in-Ok-publish_first.receipt.entry c.publish_first.ensures.moved i.held one i.zero
    c.in-Ok-publish_first.ensures.none c.in-Ok-publish_first.ensures.first).1
