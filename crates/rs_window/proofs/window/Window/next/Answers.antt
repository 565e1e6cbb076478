use Rattle.std.proofs.Common.{◌≡◌, ◌⊎◌, ◌<◌, Bool, true, false, List, length, refl, sym, ap, subst, ◌∙◌, inl, inr, arith}
use Rattle.rs_window.specs.Identifiers.{kinds_of}
use Rattle.rs_window.specs.declared.waiting.Waiting.{Waiting}
use Rattle.rs_window.specs.State.{State, state_of}
use Rattle.rs_window.specs.Calls.{IsGiven}
use Rattle.rs_window.specs.Fields.{AreReserved, NeedNone}
use Rattle.rs_window.proofs.WaitingLemmas.{rest_none, sendable_fewer, sendable_none}
use Rattle.rs_window.proofs.StepLemmas.{given_fewer, first_current, is_given}
use Rattle.rs_window.proofs.window.Window.next.Goals as goal

pub invariant_of-self : goal.invariant_of-self
invariant_of-self c = record {
  within = c.take_first.ensures.len;
  reserved = λ is. rw c.take_first.ensures.capacity (c.self.invariant.reserved is);
  unneeded = λ is. subst NeedNone (sym (c.in_err-first.ensures.kept ∙ c.drop_unsendable.ensures))
      (sendable_none c.self.inside.packet_maximum c.args.now c.self.inside.waiting.items (c.self.invariant.unneeded is));
  few = omega (arith, c.self.invariant.few, sendable_fewer c.self.inside.packet_maximum c.args.now c.self.inside.waiting.items, ap (λ (ws : List Waiting). length ws) (c.in_err-first.ensures.kept ∙ c.drop_unsendable.ensures));
}

pub outgoing_of-requires-clause-current : goal.outgoing_of-requires-clause-current
outgoing_of-requires-clause-current c =
    first_current c.self.inside.packet_maximum c.args.now c.in_ok-first.first c.self.inside.waiting.items c.take_first.new.waiting.items (sym c.drop_unsendable.ensures ∙ c.in_ok-first.ensures.first)

pub invariant_of-self-2 : goal.invariant_of-self-2
invariant_of-self-2 c = record {
  within = c.take_first.ensures.len;
  reserved = λ is. rw c.take_first.ensures.capacity (c.self.invariant.reserved is);
  unneeded = λ is. rest_none c.in_ok-first.first _ c.take_first.new.waiting.items (sym c.drop_unsendable.ensures ∙ c.in_ok-first.ensures.first)
      (sendable_none c.self.inside.packet_maximum c.args.now c.self.inside.waiting.items (c.self.invariant.unneeded is));
  few = omega (arith, c.self.invariant.few, sendable_fewer c.self.inside.packet_maximum c.args.now c.self.inside.waiting.items, ap (λ (ws : List Waiting). length ws) (sym c.drop_unsendable.ensures ∙ c.in_ok-first.ensures.first));
}

pub returns-clause-step : goal.returns-clause-step
returns-clause-step c =
    subst (λ (s : State). IsGiven c.args.now s c.outgoing_of.result (state_of (kinds_of c.take_first.new.identifiers) c.take_first.new.waiting.items c.self.inside.quota c.self.inside.packet_maximum)) c.self.view_is (
    is_given c.args.now (state_of (kinds_of c.self.inside.identifiers) c.self.inside.waiting.items c.self.inside.quota c.self.inside.packet_maximum)
    (kinds_of c.take_first.new.identifiers) c.take_first.new.waiting.items c.in_ok-first.first c.outgoing_of.result c.in_ok-first.id
    (sym c.drop_unsendable.ensures ∙ c.in_ok-first.ensures.first)
    c.outgoing_of.ensures
    c.in_ok-first.ensures.numbered
    c.in_ok-first.ensures.kinds
    )

pub returns-clause-fewer : goal.returns-clause-fewer
returns-clause-fewer c =
    subst (λ (s : State). length c.take_first.new.waiting.items < length s.waiting) c.self.view_is
    (given_fewer c.self.inside.packet_maximum c.args.now c.self.inside.waiting.items c.take_first.new.waiting.items c.in_ok-first.first (sym c.drop_unsendable.ensures ∙ c.in_ok-first.ensures.first))

pub take_first-requires-clause-reserved : goal.take_first-requires-clause-reserved
take_first-requires-clause-reserved c = by_case c.self.inside.is_reserved refl
  where
    by_case : (b : Bool) → c.self.inside.is_reserved ≡ b → NeedNone c.drop_unsendable.new.waiting.items ⊎ AreReserved c.self.inside.identifiers c.self.inside.quota
    by_case true is = inr (c.self.invariant.reserved is)
    by_case false is = inl (subst NeedNone (sym c.drop_unsendable.ensures) (sendable_none c.self.inside.packet_maximum c.args.now c.self.inside.waiting.items (c.self.invariant.unneeded is)))
