use Rattle.std.proofs.Common.{◌≡◌, ◌<◌, [], List, Option, Some, None, Ok, Err, ap, arith, inl, length, refl, subst, sym}
use Rattle.std.specs.Io.KnownBytes.{IsAtEnd}
use Rattle.rs_session.specs.Pending.{AreChanges}
use Rattle.rs_session.specs.Points.{Given}
use Rattle.rs_session.specs.State.{gate_of, state_of}
use Rattle.rs_server.specs.Counts.{inner_of}
use Rattle.rs_server.specs.Conversation.{BreaksAt, IsEnd}
use Rattle.rs_server.specs.declared.connection.Served.{Served}
use Rattle.rs_server.specs.declared.writing.ServeFault.{ServeFault}
use Rattle.rs_server.proofs.Conversations.{ends_buffered, read_breaks, read_closes, talks_as, talks_equal, talks_planned, talks_read, talks_refused}
use Rattle.rs_server.proofs.serving.Serving.read_with.Goals as goal

pub returns-in-Ok-Some-clause-read : goal.returns-in-Ok-Some-clause-read
returns-in-Ok-Some-clause-read g c = λ from first unread written wrote told h.
    let state = state_of c.args.self.now.session in
    let served = c.in-Ok-Some.served in
    let (more, taken, consumed) = c.read_more.ensures.bytes in
    let talk = talks_read {T = Option Served} from first _ state unread _ _ _ _ more _ (Ok (Some served)) written wrote _ _ consumed taken c.in-Ok-Some.ensures.cause
    (talks_equal from first _ _ _ c.args.self.now.planned.items [] _ h.none_planned h.handled.talk) in
    let old = c.args.self.now.buffered.items in
    let left = c.read_more.new.buffered.items in
    let at_end = IsAtEnd (g.R.Read.remaining (inner_of c.read_more.new.reader)) in
    let end = subst (λ (o : Option Served). IsEnd (Ok o) old left at_end) c.in-Ok-Some.field-0-is c.in-Ok-Some.ensures.end in
    (state, [], left, omega arith, talk, ends_buffered (Ok served) state [] talk.buffered left at_end (read_closes served state old left at_end end c.requires.waits.1 h.none_whole) (inl refl) talk.whole)

pub returns-in-Err-clause-read : goal.returns-in-Err-clause-read
returns-in-Err-clause-read g c = λ from first unread written wrote told h.
    let state = state_of c.args.self.now.session in
    let fault = c.in-Err.fault in
    let (more, taken, consumed) = c.read_more.ensures.bytes in
    let talk = talks_as (Option Served) Served fault from first _ state _ _ [] c.read_more.new.buffered.items written wrote
    (talks_read {T = Option Served} from first _ state unread _ _ _ _ more _ (Err fault) written wrote _ _ consumed taken c.in-Err.ensures.cause
    (talks_equal from first _ _ _ c.args.self.now.planned.items [] _ h.none_planned h.handled.talk)) in
    let left = c.read_more.new.buffered.items in
    let at_end = IsAtEnd (g.R.Read.remaining (inner_of c.read_more.new.reader)) in
    (state, [], left, omega arith, talk, ends_buffered (Err fault) state [] talk.buffered left at_end (read_breaks fault state c.args.self.now.buffered.items left c.in-Err.ensures.end c.requires.waits.1 h.none_whole) (inl refl) talk.whole)

pub returns-then-most_expected-eq0-clause-read : goal.returns-then-most_expected-eq0-clause-read
returns-then-most_expected-eq0-clause-read g c = λ from first unread written wrote told h.
    let planned = c.args.self.now.planned.items in
    let (more, taken, consumed) = c.read_more.ensures.bytes in
    let read = talks_read {T = Option Served} from first _ _ unread _ _ _ _ more _ (Ok None) written wrote _ _ consumed taken c.in-Ok-None.ensures.cause
    (talks_equal from first _ _ _ planned [] _ h.none_planned h.handled.talk) in
    record {
      talk = talks_equal from first _ _ _ [] planned _ (sym h.none_planned) read;
      expected = h.handled.expected;
      few = h.handled.few;
    }

pub returns-in-Ok-clause-read : goal.returns-in-Ok-clause-read
returns-in-Ok-clause-read g c = λ from first unread written wrote told h.
    let planned = c.args.self.now.planned.items in
    let (more, taken, consumed) = c.read_more.ensures.bytes in
    let read = talks_read {T = Option Served} from first _ _ unread _ _ _ _ more _ (Ok None) written wrote _ _ consumed taken c.in-Ok-None.ensures.cause
    (talks_equal from first _ _ _ planned [] _ h.none_planned h.handled.talk) in
    let changes : first ≡ [] → AreChanges c.plan.new.planned.items (g.G.Gate.pending (gate_of c.plan.new.session)) = λ e. c.plan.ensures.pending (h.handled.expected e) in
    let some : 0 < g.G.Gate.most = omega (arith, c.most_expected.ensures, c.if-most_expected-eq0.false) in
    record {
      talk = talks_planned g.G.Gate.stands g.G.Gate.mark g.G.Gate.pending _ _ from first _ _ _ planned c.plan.new.planned.items _ _ told _ _ _ c.plan.ensures.list c.plan.ensures.mark c.plan.ensures.state c.plan.ensures.plans changes
          (talks_equal from first _ _ _ [] planned _ (sym h.none_planned) read);
      expected = changes;
      few = omega (arith, some, c.plan.ensures.few h.handled.few);
    }

pub returns-in-Err-plan-clause-read : goal.returns-in-Err-plan-clause-read
returns-in-Err-plan-clause-read g c = λ from first unread written wrote told h.
    let planned = c.args.self.now.planned.items in
    let (more, taken, consumed) = c.read_more.ensures.bytes in
    let read = talks_read {T = Option Served} from first _ _ unread _ _ _ _ more _ (Ok None) written wrote _ _ consumed taken c.in-Ok-None.ensures.cause
    (talks_equal from first _ _ _ planned [] _ h.none_planned h.handled.talk) in
    let talk = talks_refused Served c.in-Err-plan.fault from first _ _ _ _ _ _ written wrote c.in-Err-plan.ensures.fault
    (talks_planned g.G.Gate.stands g.G.Gate.mark g.G.Gate.pending _ _ from first _ _ _ planned c.plan.new.planned.items _ _ told _ _ _ c.plan.ensures.list c.plan.ensures.mark c.plan.ensures.state c.plan.ensures.plans (λ e. c.plan.ensures.pending (h.handled.expected e))
    (talks_equal from first _ _ _ [] planned _ (sym h.none_planned) read)) in (
      state_of c.plan.new.session,
      c.plan.new.planned.items,
      c.plan.new.buffered.items,
      omega (arith, h.handled.few, ap (λ (l : List Given). length l) c.in-Err-plan.ensures.none),
      talk,
      subst (λ (f : ServeFault). BreaksAt f (state_of c.plan.new.session) talk.buffered) (sym c.in-Err-plan.ensures.fault) tt,
    )
