use Rattle.std.proofs.Common.{subst, sym}
use Rattle.rs_journal.specs.Writing.{IsRefused}
use Rattle.rs_journal.specs.declared.fault.WriteFault.{WriteFault}
use Rattle.rs_journal_writer.proofs.Parts.{idle, keeping_tidied, keeping_untidy}
use Rattle.rs_journal_writer.proofs.kept_writer.KeptWriter.tidy.Goals as goal

pub invariant_of-self-in-Ok : goal.invariant_of-self-in-Ok
invariant_of-self-in-Ok g c =
    let s = c.self.inside in
    let i = idle s.writer s.waiting.items s.ready c.args.self.now c.self.view_is c.self.invariant.counted c.requires.none c.requires.ready in
    keeping_tidied _ _ s.writer s.journal c.tidy.new.journal s.waiting.items s.ready s.in_doubt c.self.invariant c.if-self.false i (c.in-Ok.ensures.sure tt)

pub invariant_of-self-in-Err-Refused : goal.invariant_of-self-in-Err-Refused
invariant_of-self-in-Err-Refused g c =
    let s = c.self.inside in
    let i = idle s.writer s.waiting.items s.ready c.args.self.now c.self.view_is c.self.invariant.counted c.requires.none c.requires.ready in
    let refused : IsRefused c.in-Err-Refused.field-0 = subst (λ (e : WriteFault). IsRefused e) (sym c.in-Err-Refused.field-0-is) tt in
    keeping_tidied _ _ s.writer s.journal c.tidy.new.journal s.waiting.items s.ready s.in_doubt c.self.invariant c.if-self.false i (c.in-Err-Refused.ensures.sure refused)

pub invariant_of-self-in-Err-Doubtful : goal.invariant_of-self-in-Err-Doubtful
invariant_of-self-in-Err-Doubtful g c =
    let s = c.self.inside in
    let i = idle s.writer s.waiting.items s.ready c.args.self.now c.self.view_is c.self.invariant.counted c.requires.none c.requires.ready in
    keeping_untidy _ _ s.writer s.journal c.tidy.new.journal s.waiting.items s.ready s.in_doubt c.self.invariant c.if-self.false i c.in-Err-Doubtful.ensures.crash
