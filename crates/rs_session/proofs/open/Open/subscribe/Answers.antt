use Rattle.std.proofs.Common.{◌≡◌, ◌∙◌, ◌++◌, ◌∷◌, [], ℕ, Option, refl, sym, ap, subst, arith, List, length, append_assoc, append-nil}
use Rattle.std.specs.List.{All, list_any}
use Rattle.std.proofs.lemmas.List.{nil_from_length}
use Rattle.std.specs.Vec.Iter.{into_iter_items}
use Rattle.rs_packet.specs.Values.{Asked, SubscribeValue}
use Rattle.rs_packet.specs.declared.packet.Packet.TheVariants as packet
use Rattle.rs_session.specs.declared.open.Open.{Open}
use Rattle.rs_session.specs.declared.open.Effect.TheVariants.{Closes}
use Rattle.rs_session.specs.declared.phase.Input.TheVariants.{Whole}
use Rattle.rs_session.specs.Gate.{Mark, StandsAt}
use Rattle.rs_session.specs.declared.reason.ReasonCode.TheVariants.{ProtocolError, QuotaExceeded}
use Rattle.rs_session.specs.Points.{Point, given_at, point_at}
use Rattle.rs_session.specs.Table.{LeadsTo, Grants, is_shared_local}
use Rattle.rs_session.proofs.Rows.{unmoved, stood_more, grants_more, grants_grow, shared_refused, not_subscribed, subscribed, same_codes}
use Rattle.rs_session.proofs.open.Open.subscribe.Goals as goal

pub returns-then-any_shared_local-clause-row : goal.returns-then-any_shared_local-clause-row
returns-then-any_shared_local-clause-row g c =
    let o = c.args.self.now in
    let same = c.as_slice.ensures.value ∙ ap (λ (v : SubscribeValue). v.filters) c.s.view_is in
    unmoved g.G.Gate.stands g.G.Gate.mark c.args.gate.now c.args.gate.now (λ seen answered list used. LeadsTo (given_at (Whole (packet.Subscribe c.args.s)) c.args.now) (point_at o seen (g.G.Gate.mark c.args.gate.now)) answered (Closes ProtocolError) (point_at o list used)) refl
    (λ list. shared_refused c.args.s c.args.now (point_at o list _) (ap (λ (l : List Asked). list_any is_shared_local l) (sym same) ∙ sym c.if-any_shared_local.ensures))

pub returns-in_default-clause-row : goal.returns-in_default-clause-row
returns-in_default-clause-row g c =
    let o = c.args.self.now in
    let same = c.as_slice.ensures.value ∙ ap (λ (v : SubscribeValue). v.filters) c.s.view_is in
    unmoved g.G.Gate.stands g.G.Gate.mark c.args.gate.now c.args.gate.now (λ seen answered list used. LeadsTo (given_at (Whole (packet.Subscribe c.args.s)) c.args.now) (point_at o seen (g.G.Gate.mark c.args.gate.now)) answered (Closes QuotaExceeded) (point_at o list used)) refl
    (λ list. not_subscribed c.args.s c.args.now (point_at o list _) (ap (λ (l : List Asked). list_any is_shared_local l) (sym same) ∙ sym c.if-any_shared_local.ensures))

pub filters-preserved : goal.filters-preserved
filters-preserved g c =
    let rest = into_iter_items c.next.new.self in
    record {
      callable = tt;
      finite = tt;
      granted = λ seen s.
          let (mid, stood, answered, each, so_far) = c.filters.invariant.granted seen s in
          let (list, stands, begins, step) = c.grant-code.ensures.list mid stood in (
            list,
            stands,
            answered ++ list ∷ [],
            stood_more g.G.Gate.stands g.G.Gate.mark (g.G.Gate.mark c.args.gate.now) answered list each (c.grant-code.new.gate, stands, c.grant-code.ensures.mark ∙ c.filters.invariant.mark),
            rw (c.push_reserved.ensures.items) (grants_more _ _ _ _ _ _ _ _ _ _ so_far begins step),
          );
      mark = c.grant-code.ensures.mark ∙ c.filters.invariant.mark;
      pending = c.grant-code.ensures.pending ∙ c.filters.invariant.pending;
      all = append_assoc c.filters.yielded (c.in-Some.asked ∷ []) rest ∙ (ap (λ (l : List Asked). c.filters.yielded ++ l) (sym c.in-Some.ensures.steps.0) ∙ c.filters.invariant.all);
      capacity = omega (arith, c.filters.invariant.capacity, ap (λ (l : List Asked). length l) c.in-Some.ensures.steps.0, c.push_reserved.ensures.len, c.push_reserved.ensures.capacity);
      few = omega (arith, c.filters.invariant.few, ap (λ (l : List Asked). length l) c.in-Some.ensures.steps.0, c.push_reserved.ensures.len);
    }

pub returns-clause-row : goal.returns-clause-row
returns-clause-row g c = λ seen s.
    let (list, stood, answered, each, granted) = c.filters.invariant.granted seen s in
    let all : c.filters.yielded ≡ c.args.s.filters = sym (append-nil c.filters.yielded) ∙ (ap (λ (l : List Asked). c.filters.yielded ++ l) (sym (nil_from_length _ (omega (arith, c.in-None.ensures.steps.0, c.filters.asked-iterator.rest.ok)))) ∙ c.filters.invariant.all) in
    let same = c.as_slice.ensures.value ∙ ap (λ (v : SubscribeValue). v.filters) c.s.view_is in
    let from : Point Open = point_at c.args.self.now seen (g.G.Gate.mark c.args.gate.now) in
    let to : Point Open = point_at c.filters.self list (g.G.Gate.mark c.filters.gate) in (
      list,
      stood,
      grants_grow _ _ _ _ _ _ _ granted,
      (
        answered,
        subst (λ (m : Mark). All (StandsAt g.G.Gate.stands g.G.Gate.mark m) answered) (sym c.filters.invariant.mark) each,
        subscribed c.args.s c.filters.codes.items c.new.result c.args.now from answered to
            (ap (λ (l : List Asked). list_any is_shared_local l) (sym same) ∙ sym c.if-any_shared_local.ensures) c.filters.invariant.mark (c.new.ensures ∙ same_codes _ _ _ _ (ap (λ (v : SubscribeValue). v.id) c.s.view_is) refl)
            (subst (λ (l : List Asked). Grants c.args.now l c.args.s.subscription from c.filters.codes.items answered to) all (subst (λ (i : Option ℕ). Grants c.args.now c.filters.yielded i from c.filters.codes.items answered to) (ap (λ (v : SubscribeValue). v.subscription) c.s.view_is) granted)),
      ),
    )
