use Rattle.std.proofs.Common.{◌≡◌, ◌∙◌, ◌∷◌, [], ℕ, List, Option, Ok, Err, refl, ap, sym, subst, arith, length}
use Rattle.std.proofs.lemmas.List.{nil_from_length}
use Rattle.std.specs.Io.KnownBytes.{IsAtEnd}
use Rattle.rs_session.specs.Pending.{AreChanges}
use Rattle.rs_session.specs.Points.{Given}
use Rattle.rs_session.specs.State.{State, closing_of, gate_of, state_of}
use Rattle.rs_server.specs.Counts.{failures_of, inner_of}
use Rattle.rs_server.specs.Conversation.{BreaksAt}
use Rattle.rs_server.specs.Writing.{IsWriteCause}
use Rattle.rs_server.specs.declared.connection.Served.{Served}
use Rattle.rs_server.specs.declared.writing.ServeFault.{ServeFault}
use Rattle.rs_server.proofs.Conversations.{Closes, breaks_as, closes_ok, expected_on, talks_as, talks_equal, talks_exchange, talks_planned, talks_refused, write_cause_as}
use Rattle.rs_server.proofs.serving.handle_all.Goals as goal

pub loop-init : goal.loop-init
loop-init g c = record { handled = λ from first unread rest written told h. h; none_due = c.requires.none_due; goes_on = c.requires.goes_on; writer = refl }

pub returns-in-Err-clause-handled : goal.returns-in-Err-clause-handled
returns-in-Err-clause-handled g c = λ from first unread rest written told h.
    let before = c.loop.invariant.handled from first unread rest written told h in
    let planned = talks_planned g.G.Gate.stands g.G.Gate.mark g.G.Gate.pending _ _ from first _ _ _ c.loop.planned.items c.plan.new.planned.items _ _ told _ _ _ c.plan.ensures.list c.plan.ensures.mark c.plan.ensures.state c.plan.ensures.plans (λ e. c.plan.ensures.pending (before.expected e)) before.talk in
    let talk = talks_refused Served c.in-Err.fault from first _ _ _ _ _ _ written (g.W.Write.contents (inner_of c.loop.writer)) c.in-Err.ensures.fault planned in (
      state_of c.plan.new.session,
      c.plan.new.planned.items,
      c.plan.new.buffered.items,
      omega (arith, before.few, ap (λ (l : List Given). length l) c.in-Err.ensures.none),
      talk,
      subst (λ (f : ServeFault). BreaksAt f (state_of c.plan.new.session) talk.buffered) (sym c.in-Err.ensures.fault) tt,
    )

pub returns-in-Err-clause-due : goal.returns-in-Err-clause-due
returns-in-Err-clause-due g c = c.plan.ensures.due ∙ c.loop.invariant.none_due

pub returns-in-Err-clause-cause : goal.returns-in-Err-clause-cause
returns-in-Err-clause-cause g c = subst (λ (f : ServeFault). IsWriteCause {T = Served} (Err f) (failures_of c.args.writer.now) (failures_of c.loop.writer)) (sym c.in-Err.ensures.fault) c.loop.invariant.writer

pub returns-in_default-pop_front-clause-handled : goal.returns-in_default-pop_front-clause-handled
returns-in_default-pop_front-clause-handled g c = λ from first unread rest written told h.
    let before = c.loop.invariant.handled from first unread rest written told h in
    let planned = talks_planned g.G.Gate.stands g.G.Gate.mark g.G.Gate.pending _ _ from first _ _ _ c.loop.planned.items c.plan.new.planned.items _ _ told _ _ _ c.plan.ensures.list c.plan.ensures.mark c.plan.ensures.state c.plan.ensures.plans (λ e. c.plan.ensures.pending (before.expected e)) before.talk in
    let none : c.plan.new.planned.items ≡ [] = nil_from_length _ (omega (arith, c.in_default-pop_front.ensures.cases.0, c.plan.new.planned.ok.0)) in
    let popped : c.plan.new.planned.items ≡ c.pop_front.new.self.items = c.in_default-pop_front.ensures.items in
    record {
      handled = record {
        talk = talks_equal from first _ _ _ _ c.pop_front.new.self.items _ popped planned;
        expected = λ e. subst (λ (l : List Given). AreChanges l (g.G.Gate.pending (gate_of c.plan.new.session))) popped (c.plan.ensures.pending (before.expected e));
        few = omega (arith, ap (λ (l : List Given). length l) (sym popped ∙ none));
      };
      none_planned = sym popped ∙ none;
      none_whole = c.in_default.ensures.more none;
    }

pub returns-in_default-pop_front-clause-due : goal.returns-in_default-pop_front-clause-due
returns-in_default-pop_front-clause-due g c = c.plan.ensures.due ∙ c.loop.invariant.none_due

pub returns-in_default-pop_front-clause-goes_on : goal.returns-in_default-pop_front-clause-goes_on
returns-in_default-pop_front-clause-goes_on g c = λ e. ap (λ (s : State). closing_of s.phase) c.plan.ensures.state ∙ c.loop.invariant.goes_on

pub returns-in_default-pop_front-clause-cause : goal.returns-in_default-pop_front-clause-cause
returns-in_default-pop_front-clause-cause g c = c.loop.invariant.writer

pub make_exchange-requires-clause-writer_can_rise :
    goal.make_exchange-requires-clause-writer_can_rise
make_exchange-requires-clause-writer_can_rise g c = omega (arith, c.requires.writer_can_rise, c.loop.invariant.writer)

pub make_exchange-requires-clause-none_due : goal.make_exchange-requires-clause-none_due
make_exchange-requires-clause-none_due g c = c.plan.ensures.due ∙ c.loop.invariant.none_due

pub make_exchange-requires-clause-goes_on : goal.make_exchange-requires-clause-goes_on
make_exchange-requires-clause-goes_on g c = ap (λ (s : State). closing_of s.phase) c.plan.ensures.state ∙ c.loop.invariant.goes_on

pub returns-in-Err-make_exchange-clause-handled :
    goal.returns-in-Err-make_exchange-clause-handled
returns-in-Err-make_exchange-clause-handled g c = λ from first unread rest written told h.
    let before = c.loop.invariant.handled from first unread rest written told h in
    let planned = talks_planned g.G.Gate.stands g.G.Gate.mark g.G.Gate.pending _ _ from first _ _ _ c.loop.planned.items c.plan.new.planned.items _ _ told _ _ _ c.plan.ensures.list c.plan.ensures.mark c.plan.ensures.state c.plan.ensures.plans (λ e. c.plan.ensures.pending (before.expected e)) before.talk in
    let left = c.pop_front.new.self.items in
    let given : Given = c.in-Some-pop_front.next in
    let is : c.plan.new.planned.items ≡ given ∷ left = c.in-Some-pop_front.ensures.items in
    let fault = c.in-Err-make_exchange.fault in
    let wrote_last = g.W.Write.contents (inner_of c.make_exchange.new.writer) in
    let talk = talks_as (Unit {0}) Served fault from first _ _ _ _ left _ written wrote_last
    (talks_exchange {T = Unit {0}} g.G.Gate.stands g.G.Gate.mark g.G.Gate.pending _ _ from first _ _ _ _ left _ (Err fault) written (g.W.Write.contents (inner_of c.loop.writer)) wrote_last given c.in-Err-make_exchange.ensures.exchange
    (λ e. subst (λ (l : List Given). AreChanges l (g.G.Gate.pending (gate_of c.plan.new.session))) is (c.plan.ensures.pending (before.expected e))) c.in-Err-make_exchange.ensures.pending
    (talks_equal from first _ _ _ c.plan.new.planned.items (given ∷ left) _ is planned)) in (
      state_of c.make_exchange.new.session,
      left,
      c.plan.new.buffered.items,
      omega (arith, c.plan.ensures.few before.few, ap (λ (l : List Given). length l) is),
      talk,
      breaks_as (Unit {0}) fault (state_of c.make_exchange.new.session) talk.buffered _ _ c.in-Err-make_exchange.ensures.cause,
    )

pub returns-in-Err-make_exchange-clause-cause : goal.returns-in-Err-make_exchange-clause-cause
returns-in-Err-make_exchange-clause-cause g c =
    subst (λ (n : ℕ). IsWriteCause {T = Served} (Err c.in-Err-make_exchange.fault) n (failures_of c.make_exchange.new.writer)) c.loop.invariant.writer
    (write_cause_as (Unit {0}) Served c.in-Err-make_exchange.fault _ _ c.in-Err-make_exchange.ensures.cause)

pub returns-in-Some-served_as-clause-handled : goal.returns-in-Some-served_as-clause-handled
returns-in-Some-served_as-clause-handled g c = λ from first unread rest written told h.
    let before = c.loop.invariant.handled from first unread rest written told h in
    let planned = talks_planned g.G.Gate.stands g.G.Gate.mark g.G.Gate.pending _ _ from first _ _ _ c.loop.planned.items c.plan.new.planned.items _ _ told _ _ _ c.plan.ensures.list c.plan.ensures.mark c.plan.ensures.state c.plan.ensures.plans (λ e. c.plan.ensures.pending (before.expected e)) before.talk in
    let left = c.pop_front.new.self.items in
    let given : Given = c.in-Some-pop_front.next in
    let is : c.plan.new.planned.items ≡ given ∷ left = c.in-Some-pop_front.ensures.items in
    let talk = talks_exchange {T = Unit {0}} g.G.Gate.stands g.G.Gate.mark g.G.Gate.pending _ _ from first _ _ _ _ left _ (Ok c.in_default-make_exchange.field-0) written (g.W.Write.contents (inner_of c.loop.writer)) (g.W.Write.contents (inner_of c.make_exchange.new.writer)) given c.in_default-make_exchange.ensures.exchange
    (λ e. subst (λ (l : List Given). AreChanges l (g.G.Gate.pending (gate_of c.plan.new.session))) is (c.plan.ensures.pending (before.expected e))) c.in_default-make_exchange.ensures.pending
    (talks_equal from first _ _ _ c.plan.new.planned.items (given ∷ left) _ is planned) in
    let state = state_of c.make_exchange.new.session in (
      state,
      left,
      c.plan.new.buffered.items,
      omega (arith, c.plan.ensures.few before.few, ap (λ (l : List Given). length l) is),
      talk,
      subst (λ (o : Option Served). Closes (Ok o) state talk.buffered (IsAtEnd rest)) (sym c.served_as.ensures ∙ c.in-Some-served_as.is) (closes_ok state talk.buffered (IsAtEnd rest) c.closing.result (sym c.closing.ensures)),
    )

pub returns-in-Some-served_as-clause-cause : goal.returns-in-Some-served_as-clause-cause
returns-in-Some-served_as-clause-cause g c = c.in_default-make_exchange.ensures.cause ∙ c.loop.invariant.writer

pub loop-preserved : goal.loop-preserved
loop-preserved g c =
    let state = state_of c.make_exchange.new.session in
    let goes_on = subst (λ (o : Option Served). Closes (Ok o) state [] (Unit {0})) (sym c.served_as.ensures ∙ c.in_default-served_as.is) (closes_ok state [] (Unit {0}) c.closing.result (sym c.closing.ensures)) in
    record {
      handled = λ from first unread rest written told h.
          let before = c.loop.invariant.handled from first unread rest written told h in
          let planned = talks_planned g.G.Gate.stands g.G.Gate.mark g.G.Gate.pending _ _ from first _ _ _ c.loop.planned.items c.plan.new.planned.items _ _ told _ _ _ c.plan.ensures.list c.plan.ensures.mark c.plan.ensures.state c.plan.ensures.plans (λ e. c.plan.ensures.pending (before.expected e)) before.talk in
          let left = c.pop_front.new.self.items in
          let given : Given = c.in-Some-pop_front.next in
          let is : c.plan.new.planned.items ≡ given ∷ left = c.in-Some-pop_front.ensures.items in
          let changes : first ≡ [] → AreChanges (given ∷ left) (g.G.Gate.pending (gate_of c.plan.new.session)) = λ e. subst (λ (l : List Given). AreChanges l (g.G.Gate.pending (gate_of c.plan.new.session))) is (c.plan.ensures.pending (before.expected e)) in
          record {
            talk = talks_exchange {T = Unit {0}} g.G.Gate.stands g.G.Gate.mark g.G.Gate.pending _ _ from first _ _ _ _ left _ (Ok c.in_default-make_exchange.field-0) written (g.W.Write.contents (inner_of c.loop.writer)) (g.W.Write.contents (inner_of c.make_exchange.new.writer)) given c.in_default-make_exchange.ensures.exchange
                changes c.in_default-make_exchange.ensures.pending
                (talks_equal from first _ _ _ c.plan.new.planned.items (given ∷ left) _ is planned);
            expected = λ e. expected_on given left _ _ _ state.phase goes_on (changes e) c.in_default-make_exchange.ensures.pending;
            few = omega (arith, c.plan.ensures.few before.few, ap (λ (l : List Given). length l) is);
          };
      none_due = c.in_default-make_exchange.ensures.due;
      goes_on = goes_on;
      writer = c.in_default-make_exchange.ensures.cause ∙ c.loop.invariant.writer;
    }
