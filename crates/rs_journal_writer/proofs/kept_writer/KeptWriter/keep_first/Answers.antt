use Rattle.std.proofs.Common.{◌≡◌, ap, arith, length, subst, sym}
use Rattle.std.proofs.lemmas.List.{length-take}
use Rattle.rs_journal.specs.Writing.{IsRefused}
use Rattle.rs_journal.specs.declared.fault.WriteFault.{WriteFault}
use Rattle.rs_journal_writer.proofs.Parts.{batch_legal, batch_shown, idle, keeping_doubtful, keeping_kept, keeping_refused}
use Rattle.rs_journal_writer.proofs.kept_writer.KeptWriter.keep_first.Goals as goal

pub copy_first-requires : goal.copy_first-requires
copy_first-requires g c =
    let s = c.self.inside in
    let v = c.args.self.now in
    let none = c.requires.none in
    let i = idle s.writer s.waiting.items s.ready v c.self.view_is c.self.invariant.counted none c.requires.ready in
    i.none

pub invariant_of-self-in-Ok-keep_all : goal.invariant_of-self-in-Ok-keep_all
invariant_of-self-in-Ok-keep_all g c =
    let s = c.self.inside in
    let v = c.args.self.now in
    let none = c.requires.none in
    let i = idle s.writer s.waiting.items s.ready v c.self.view_is c.self.invariant.counted none c.requires.ready in
    let list = c.copy_first.new.list.items in
    let limit = g.N.StoreName.limit in
    let few = c.requires.few in
    let legal = batch_legal limit s.writer s.waiting.items list c.args.changes.now.items s.ready c.args.count v c.self.view_is none c.in-Ok.ensures.copies c.in-Ok.ensures.origins c.requires.rises
    c.requires.space in
    let short = length-take c.args.count c.args.changes.now.items in
    let long = ap length c.in-Ok.ensures.copies in
    keeping_kept _ _ s.writer s.journal c.keep_all.new.journal s.waiting.items list s.ready c.len-self-inside.result s.in_doubt c.self.invariant c.if-self.false i legal
    (omega (arith, few, short, long)) (omega arith) c.in-Ok-keep_all.ensures.kept

pub invariant_of-self-in-Err-Refused : goal.invariant_of-self-in-Err-Refused
invariant_of-self-in-Err-Refused g c =
    let s = c.self.inside in
    let v = c.args.self.now in
    let none = c.requires.none in
    let i = idle s.writer s.waiting.items s.ready v c.self.view_is c.self.invariant.counted none c.requires.ready in
    let refused : IsRefused c.in-Err-Refused.field-0 = subst (λ (e : WriteFault). IsRefused e) (sym c.in-Err-Refused.field-0-is) tt in
    keeping_refused _ _ s.writer s.journal c.keep_all.new.journal s.waiting.items c.clear-in-Err-Refused.new.self.items s.ready s.in_doubt c.self.invariant c.if-self.false i
    c.clear-in-Err-Refused.ensures.items (c.in-Err-Refused.ensures.refused refused)

pub invariant_of-self-in-Err-Doubtful : goal.invariant_of-self-in-Err-Doubtful
invariant_of-self-in-Err-Doubtful g c =
    let s = c.self.inside in
    let v = c.args.self.now in
    let none = c.requires.none in
    let i = idle s.writer s.waiting.items s.ready v c.self.view_is c.self.invariant.counted none c.requires.ready in
    let list = c.copy_first.new.list.items in
    let limit = g.N.StoreName.limit in
    let few = c.requires.few in
    let legal = batch_legal limit s.writer s.waiting.items list c.args.changes.now.items s.ready c.args.count v c.self.view_is none c.in-Ok.ensures.copies c.in-Ok.ensures.origins c.requires.rises
    c.requires.space in
    let short = length-take c.args.count c.args.changes.now.items in
    let long = ap length c.in-Ok.ensures.copies in
    keeping_doubtful _ _ s.writer s.journal c.keep_all.new.journal s.waiting.items list s.ready c.len-self-inside-in-Err-Doubtful.result s.in_doubt c.self.invariant c.if-self.false i legal
    (omega (arith, few, short, long)) (omega arith) c.in-Err-Doubtful.ensures.crash

pub returns-in-Ok-keep_all-clause-same : goal.returns-in-Ok-keep_all-clause-same
returns-in-Ok-keep_all-clause-same g c =
    let s = c.self.inside in
    let v = c.args.self.now in
    let none = c.requires.none in
    let i = idle s.writer s.waiting.items s.ready v c.self.view_is c.self.invariant.counted none c.requires.ready in
    let len : length c.copy_first.new.list.items ≡ c.len-self-inside.result = omega arith in
    batch_shown s.writer s.waiting.items c.copy_first.new.list.items s.ready c.len-self-inside.result v c.self.view_is i len

pub returns-in-Err-Doubtful-clause-same : goal.returns-in-Err-Doubtful-clause-same
returns-in-Err-Doubtful-clause-same g c =
    let s = c.self.inside in
    let v = c.args.self.now in
    let none = c.requires.none in
    let i = idle s.writer s.waiting.items s.ready v c.self.view_is c.self.invariant.counted none c.requires.ready in
    let len : length c.copy_first.new.list.items ≡ c.len-self-inside-in-Err-Doubtful.result = omega arith in
    batch_shown s.writer s.waiting.items c.copy_first.new.list.items s.ready c.len-self-inside-in-Err-Doubtful.result v c.self.view_is i len
