use Rattle.std.proofs.Common.{◌≡◌, ◌≢◌, ◌∙◌, ◌+◌, ◌<◌, [], ap, length, subst}
use Rattle.rs_version.specs.Writer.{IsReleasedInPart, Written, released}
use Rattle.rs_journal_writer.specs.Keeping.{KeptValue}
use Rattle.rs_journal_writer.specs.State.{written_in}
use Rattle.rs_journal_writer.proofs.Parts.{held_some, in_part, match_of, none_ready, ready_zero, released_in}
use Rattle.rs_journal_writer.proofs.kept_writer.KeptWriter.publish_all.Goals as goal

pub returns-clause-ready : goal.returns-clause-ready
returns-clause-ready g c =
    let s = c.self.inside in
    let zero = none_ready s.waiting.items s.ready c.self.invariant.counted (ap (λ (k : KeptValue). k.ready) c.self.view_is ∙ c.requires) in
    ready_zero c.publish_held.new.waiting.items s.ready zero

pub returns-clause-released : goal.returns-clause-released
returns-clause-released g c =
    let s = c.self.inside in
    let w' = c.publish_held.new.writer in
    let list' = c.publish_held.new.waiting.items in
    let zero = none_ready s.waiting.items s.ready c.self.invariant.counted (ap (λ (k : KeptValue). k.ready) c.self.view_is ∙ c.requires) in
    let now = ap (λ (k : KeptValue). k.written) c.self.view_is in
    let after = written_in w' list' s.ready in
    let W : Written → Type 0 = λ w. (after.held ≢ []) × IsReleasedInPart w after in
    match_of c.publish_held.result ((w'.held ≡ []) × (length list' ≡ s.ready)) (s.ready < length w'.held + length list')
    (after ≡ released c.args.self.now.written) ((after.held ≢ []) × IsReleasedInPart c.args.self.now.written after)
    c.publish_held.ensures.published c.publish_held.ensures.refused
    (λ p. released_in s.writer w' s.waiting.items list' s.ready c.publish_held.ensures.moved zero p.0 p.1 ∙ ap released now)
    (λ q. subst W now (
      held_some w' list' s.ready c.publish_held.ensures.counted q,
      in_part s.writer w' s.waiting.items list' s.ready c.publish_held.ensures.moved c.self.invariant.counted c.publish_held.ensures.counted,
    ))
