use Rattle.std.proofs.Common.{◌∙◌, ap, refl, subst, sym}
use Rattle.rs_version.specs.Writer.{IsReady, Written}
use Rattle.rs_version.specs.declared.fault.PutFault.TheVariants.{NoMemory}
use Rattle.rs_version.proofs.Holding.{refused_of, refuses_of}
use Rattle.rs_version.proofs.WriterState.{ready_added, ready_deferred, ready_free, ready_refuses}
use Rattle.rs_journal_writer.specs.Keeping.{KeptValue}
use Rattle.rs_journal_writer.proofs.Parts.{none_waits}
use Rattle.rs_journal_writer.proofs.kept_writer.KeptWriter.put_alone.Goals as goal

pub has_room-requires : goal.has_room-requires
has_room-requires g c =
    let s = c.self.inside in
    (none_waits s.writer s.waiting.items s.ready
    (ap (λ (k : KeptValue). k.written.held) c.self.view_is ∙ ready_free g.N.StoreName.limit c.args.self.now.written c.make_space.new.self.written c.args.entry c.in_default.ensures.ready)
    (ap (λ (k : KeptValue). k.ready) c.self.view_is ∙ c.make_space.ensures.none)).0

pub returns-then-not-has_room-clause-refused : goal.returns-then-not-has_room-clause-refused
returns-then-not-has_room-clause-refused g c =
    let after = c.make_space.new.self.written in
    refuses_of g.N.StoreName.limit c.args.self.now.written after c.args.entry NoMemory
    (ready_refuses g.N.StoreName.limit c.args.self.now.written after after c.args.entry c.in_default.ensures.ready refl)

pub returns-clause-published : goal.returns-clause-published
returns-clause-published g c =
    let limit = g.N.StoreName.limit in
    let old = c.args.self.now.written in
    let mid = c.tidy.new.self.written in
    let R : Written → Type 0 = λ w. IsReady limit old c.args.entry w in
    let ready : R mid = subst R (sym (ap (λ (k : KeptValue). k.written) c.tidy.ensures.same)) c.in_default.ensures.ready in
    ready_added c.add.result limit old mid c.add.new.self.written c.args.entry ready c.add.ensures.published

pub returns-clause-refused : goal.returns-clause-refused
returns-clause-refused g c =
    let limit = g.N.StoreName.limit in
    let old = c.args.self.now.written in
    let mid = c.tidy.new.self.written in
    let R : Written → Type 0 = λ w. IsReady limit old c.args.entry w in
    let ready : R mid = subst R (sym (ap (λ (k : KeptValue). k.written) c.tidy.ensures.same)) c.in_default.ensures.ready in
    refused_of c.add.result limit old c.add.new.self.written c.args.entry
    (ready_deferred c.add.result limit old mid c.add.new.self.written c.args.entry ready c.add.ensures.deferred)
