-- Lemmas on the rows.
use Rattle.std.proofs.Common.{◌≡◌, ◌≢◌, ℕ, ◌<◌, ◌≤◌, List, [], ◌∷◌, ◌++◌, refl, sym, subst, ap, append-nil, append_assoc, arith, Bool, true, false, ltb, Option, Some, None, is_some, Result, Ok, Err, ◌∙◌, inl, inr}
use Rattle.std.specs.List.{All, list_any}
use Rattle.std.specs.FinMap as finite
use Rattle.std.specs.FinSet as set
use Rattle.std.proofs.lemmas.Bool.{lt-ltb, le-ltb}
use Rattle.std.proofs.lemmas.List.Elements.{All-nil, All-cons, All-append}
use Rattle.rs_topic.specs.declared.text.TopicFault.{TopicFault}
use Rattle.rs_topic.specs.declared.text.TopicFault.TheVariants as topic_fault
use Rattle.rs_packet.specs.Faults.{PacketFault}
use Rattle.rs_packet.specs.Faults as fault
use Rattle.rs_packet.specs.declared.packet.Acknowledgement.{Acknowledgement}
use Rattle.rs_packet.specs.declared.packet.Connect.{Connect}
use Rattle.rs_packet.specs.declared.packet.Packet.{Packet}
use Rattle.rs_packet.specs.declared.packet.Packet.TheVariants as packet
use Rattle.rs_packet.specs.declared.packet.Publish.{Publish}
use Rattle.rs_packet.specs.declared.packet.Subscribe.{Subscribe}
use Rattle.rs_packet.specs.declared.packet.Unsubscribe.{Unsubscribe}
use Rattle.rs_packet.specs.declared.reply.Reply.{Reply}
use Rattle.rs_packet.specs.declared.reply.Reply.TheVariants as reply
use Rattle.rs_packet.specs.Values.{Asked, Filter, CodesValue}
use Rattle.rs_message.specs.declared.entry.Entry.{Entry}
use Rattle.rs_message.specs.declared.entry.Operation.{Operation}
use Rattle.rs_message.specs.Values.{MessageValue}
use Rattle.rs_message.specs.Messages.{change_of, operation_of}
use Rattle.rs_window.specs.Calls as window
use Rattle.rs_window.specs.declared.identifiers.Kind.{Kind}
use Rattle.rs_window.specs.declared.identifiers.Kind.TheVariants as kind
use Rattle.rs_window.specs.declared.fault.Ack.{Ack}
use Rattle.rs_window.specs.declared.fault.WindowFault.{WindowFault}
use Rattle.rs_window.specs.declared.fault.WindowFault.TheVariants as window_fault
use Rattle.rs_session.specs.declared.open.Open.{Open}
use Rattle.rs_session.specs.declared.open.Effect.{Effect}
use Rattle.rs_session.specs.declared.open.Effect.TheVariants.{Replies, Closes, Leaves}
use Rattle.rs_session.specs.declared.phase.Closing.{Closing}
use Rattle.rs_session.specs.declared.phase.Closing.TheVariants.{ByClient, ByServer, Dropped}
use Rattle.rs_session.specs.declared.phase.Phase.TheVariants as phase
use Rattle.rs_session.specs.declared.phase.Input.{Input}
use Rattle.rs_session.specs.declared.phase.Input.TheVariants.{Whole, Broken}
use Rattle.rs_session.specs.Gate.{Mark, Extends, Grows, GrowsAnswering, StandsAt, Uses, IsHandedOver, SendsAtMost, entry_by}
use Rattle.rs_session.specs.Points.{Given, Point, given_at, point_at, with_state}
use Rattle.rs_session.specs.Reasons.{reason_value}
use Rattle.rs_session.specs.declared.reason.ReasonCode.{ReasonCode}
use Rattle.rs_session.specs.declared.reason.ReasonCode.TheVariants.{Success, UnsupportedProtocolVersion, ImplementationSpecificError, BadAuthenticationMethod, QuotaExceeded, ProtocolError, PacketIdentifierNotFound}
use Rattle.rs_session.specs.State.{State, session_at, ended, within, state_of, due_of, gate_of}
use Rattle.rs_session.specs.declared.session.Session.{Session}
use Rattle.rs_session.specs.Subscriptions.{Subscriptions, is_subscribed}
use Rattle.rs_session.specs.declared.subscriptions.Subscription.{Subscription}
use Rattle.rs_session.proofs.SubscriptionLemmas.{remove_inserted, get_absent}
use Rattle.rs_session.proofs.Submitting.{nothing_new, nothing_sent}
use Rattle.rs_session.specs.Steps.{IsAccepted, connect_refusal, effect_before, effect_of_alias, effect_of_topic, effect_of_id, effect_of_no_memory, topic_refusal, IsConcluded}
use Rattle.rs_session.specs.Table.{Answers, AnswersWithoutGate, LeadsTo, IsNeitherConnectNorVersion, fault_reason, packet_maximum, connack, open_for, change, topic_reason, acknowledged_by, unreleased_id, is_unreleased, is_one_too_many, awaiting_release, IsTaken, IsTopicOrUnread, IsHanded, acknowledgement_of, released_by, released_reason, is_shared_local, Grants, IsGranted, removal_reason, removal_codes, without, without_all, due_for, state_after, With_method, With_will, Connect_refused, Accepted, Connack_too_long, Other_version, Unexpected, In_session, Over, Faulty, With_alias, Bad_topic, Sent_again, Too_many_unreleased, Not_retained, Stored, Topic_unread, Not_stored, Uncertain, Gate_closed, Released, Wrong_acknowledgement, Acknowledged, Shared_no_local, Not_subscribed, Subscribed, Not_unsubscribed, Unsubscribed, Connected_twice, Pinged, Disconnected}

pub Grows-weaker : (before after : List Entry → Type 0) (P Q : List Entry → List Entry → Type 0) → ((seen list : List Entry) → P seen list → Q seen list) → Grows before after P → Grows before after Q
Grows-weaker before after P Q f h = λ seen s. let (list, stands, begins, p) = h seen s in (list, stands, begins, f seen list p)

-- if no filter is answered
none_answered : {G : Type 0} (stands : G → List Entry → Type 0) (mark : G → Mark) (old new : G) (P : List Entry → List (List Entry) → List Entry → Type 0)
    → Grows (stands old) (stands new) (λ seen list. P seen [] list) → GrowsAnswering stands mark old new P
none_answered stands mark old new P h = Grows-weaker (stands old) (stands new) (λ seen list. P seen [] list) _ (λ seen list p. ([], All-nil (StandsAt stands mark (mark new)), p)) h

-- a gate that is as it was stands for the same lists
pub unmoved : {G : Type 0} (stands : G → List Entry → Type 0) (mark : G → Mark) (old new : G) (P : List Entry → List (List Entry) → List Entry → Mark → Type 0)
    → new ≡ old → ((seen : List Entry) → P seen [] seen (mark old)) → GrowsAnswering stands mark old new (λ seen answered list. P seen answered list (mark new))
unmoved {G} stands mark old new P e h =
    subst (λ (g : G). GrowsAnswering stands mark old g (λ seen answered list. P seen answered list (mark g))) (sym e)
    (none_answered stands mark old old (λ seen answered list. P seen answered list (mark old)) (λ seen s. (seen, s, ([], sym (append-nil seen)), h seen)))

-- a packet that is given
pub is_packet : (given : Given) (input : Input) (p is : Packet) (now : ℕ) → input ≡ Whole p → p ≡ is → given_at input now ≡ given → given_at (Whole is) now ≡ given
is_packet given input p is now i e v = ap (λ (x : Input). given_at x now) (sym (i ∙ ap (λ (x : Packet). Whole x) e)) ∙ v

-- a fault that is given
pub is_fault : (given : Given) (input : Input) (f : PacketFault) (now : ℕ) → input ≡ Broken f → given_at input now ≡ given → given_at (Broken f) now ≡ given
is_fault given input f now i v = ap (λ (x : Input). given_at x now) (sym i) ∙ v

-- a row of what is given
pub leads : {G : Type 0} (stands : G → List Entry → Type 0) (mark : G → Mark) (old new : G) (as_read given : Given) (o left : Open) (effect : Effect) → as_read ≡ given
    → GrowsAnswering stands mark old new (λ seen answered list. LeadsTo as_read (point_at o seen (mark old)) answered effect (point_at left list (mark new)))
    → GrowsAnswering stands mark old new (λ seen answered list. LeadsTo given (point_at o seen (mark old)) answered effect (point_at left list (mark new)))
leads {G} stands mark old new as_read given o left effect is h =
    subst (λ (x : Given). GrowsAnswering stands mark old new (λ seen answered list. LeadsTo x (point_at o seen (mark old)) answered effect (point_at left list (mark new)))) is h

-- a row of what is given, without the gate
pub leads_unmoved : {G : Type 0} (stands : G → List Entry → Type 0) (mark : G → Mark) (gate : G) (as_read given : Given) (o left : Open) (effect : Effect) → as_read ≡ given
    → ((list : List Entry) → LeadsTo as_read (point_at o list (mark gate)) [] effect (point_at left list (mark gate)))
    → GrowsAnswering stands mark gate gate (λ seen answered list. LeadsTo given (point_at o seen (mark gate)) answered effect (point_at left list (mark gate)))
leads_unmoved {G} stands mark gate as_read given o left effect is h =
    leads stands mark gate gate as_read given o left effect is
    (unmoved stands mark gate gate (λ seen answered list used. LeadsTo as_read (point_at o seen (mark gate)) answered effect (point_at left list used)) refl h)

-- ---- before an accepted CONNECT

pub unexpected : (p is : Packet) (old new : State) (due : Option Reply) → p ≡ is → IsNeitherConnectNorVersion (Whole is) → old.phase ≡ phase.Before → due ≡ None → new ≡ ended old Dropped
    → AnswersWithoutGate (Whole p) old due new
unexpected p is old new due e greets before none end = λ now mark list.
    (Unexpected, (refl, (subst (λ (x : Packet). IsNeitherConnectNorVersion (Whole x)) (sym e) greets, before, refl, none, end)))

pub unexpected_fault : (f is : PacketFault) (old new : State) (due : Option Reply) → f ≡ is → IsNeitherConnectNorVersion (Broken is) → old.phase ≡ phase.Before → due ≡ None → new ≡ ended old Dropped
    → AnswersWithoutGate (Broken f) old due new
unexpected_fault f is old new due e greets before none end = λ now mark list.
    (Unexpected, (refl, (subst (λ (x : PacketFault). IsNeitherConnectNorVersion (Broken x)) (sym e) greets, before, refl, none, end)))

pub other_version : (f : PacketFault) (old new : State) (due : Option Reply) → f ≡ fault.Version → old.phase ≡ phase.Before → due ≡ Some (reply.ConnackRefused (reason_value UnsupportedProtocolVersion)) → new ≡ ended old (ByServer (reason_value UnsupportedProtocolVersion))
    → AnswersWithoutGate (Broken f) old due new
other_version f old new due e before is end = λ now mark list.
    (Other_version, (refl, (ap Broken e, before, refl, is, end)))

pub connected : (c : Connect) (p : Packet) (old new : State) (due : Option Reply) → p ≡ packet.Connect c
    → (AnswersWithoutGate (Whole (packet.Connect c)) old due new)
    → AnswersWithoutGate (Whole p) old due new
connected c p old new due e h = λ now mark list. subst (λ (x : Packet). Answers (given_at (Whole x) now) (point_at old list mark) [] due (point_at new list mark)) (sym e) (h now mark list)

pub accepted : (c : Connect) (method will : Bool) (old new : State) (due : Option Reply) → is_some c.method ≡ method → c.will ≡ will → connect_refusal method will ≡ None → old.phase ≡ phase.Before → IsAccepted (connack c old) (packet_maximum c.packet_maximum) (open_for c) old due new
    → AnswersWithoutGate (Whole (packet.Connect c)) old due new
accepted c true will old new due m w none before h = absurd (cc)
accepted c false true old new due m w none before h = absurd (cc)
accepted c false false old new due m w none before (inl (a, b, d)) = λ now mark list. (Accepted, (refl, (c, refl, before, m, w, a, refl, b, d)))
accepted c false false old new due m w none before (inr (a, b, d)) = λ now mark list. (Connack_too_long, (refl, (c, refl, before, m, w, a, refl, b, d)))

pub connect_refused : (c : Connect) (method will : Bool) (code : ReasonCode) (old new : State) (due : Option Reply) → is_some c.method ≡ method → c.will ≡ will → connect_refusal method will ≡ Some code → old.phase ≡ phase.Before
    → due ≡ within (packet_maximum c.packet_maximum) (reply.ConnackRefused (reason_value code)) → new ≡ ended old (ByServer (reason_value code))
    → AnswersWithoutGate (Whole (packet.Connect c)) old due new
connect_refused c true will code old new due m w is before d s = λ now mark list.
    let e : code ≡ BadAuthenticationMethod = cc in
    (With_method, (refl, (c, refl, before, m, record { none_used = refl; reply = d ∙ ap (λ (n : ReasonCode). within (packet_maximum c.packet_maximum) (reply.ConnackRefused (reason_value n))) e; end = s ∙ ap (λ (n : ReasonCode). ended old (ByServer (reason_value n))) e })))
connect_refused c false true code old new due m w is before d s = λ now mark list.
    let e : code ≡ ImplementationSpecificError = cc in
    (With_will, (refl, (c, refl, before, m, w, record { none_used = refl; reply = d ∙ ap (λ (n : ReasonCode). within (packet_maximum c.packet_maximum) (reply.ConnackRefused (reason_value n))) e; end = s ∙ ap (λ (n : ReasonCode). ended old (ByServer (reason_value n))) e })))
connect_refused c false false code old new due m w is before d s = absurd (cc)

pub connect_without_memory : (c : Connect) (method will : Bool) (old new : State) (due : Option Reply) → is_some c.method ≡ method → c.will ≡ will → connect_refusal method will ≡ None → old.phase ≡ phase.Before
    → due ≡ within (packet_maximum c.packet_maximum) (reply.ConnackRefused (reason_value QuotaExceeded)) → new ≡ ended old (ByServer (reason_value QuotaExceeded))
    → AnswersWithoutGate (Whole (packet.Connect c)) old due new
connect_without_memory c true will old new due m w none before d s = absurd (cc)
connect_without_memory c false true old new due m w none before d s = absurd (cc)
connect_without_memory c false false old new due m w none before d s = λ now mark list.
    (Connect_refused, (refl, (c, refl, before, m, w, record { none_used = refl; reply = d; end = s })))

-- ---- an open session

pub over : (given : Given) (at : Point State) (due : Option Reply) (closing : Closing) → at.state.phase ≡ phase.Ended closing → due ≡ None → Answers given at [] due at
over given at due closing e d = (Over, (refl, (closing, e, refl, d, refl)))

-- what a row leads to is due, and the state after it
pub concluded : (given : Given) (from : Point State) (o : Open) (answered : List (List Entry)) (effect : Effect) (maximum : ℕ) (left : Open) (due : Option Reply) (to : Point State)
    → from.state.phase ≡ phase.Open o → maximum ≡ o.window.packet_maximum → LeadsTo given (with_state from o) answered effect (with_state to left) → due ≡ due_for maximum effect → to.state ≡ state_after effect from.state left
    → Answers given from answered due to
concluded given from o answered effect maximum left due to p l h d s =
    (In_session, (tt, (o, left, effect, p, h, d ∙ ap (λ (n : ℕ). due_for n effect) l, s)))

pub faulty : (f : PacketFault) (now : ℕ) (code : ReasonCode) (at : Point Open) → code ≡ fault_reason f → LeadsTo (given_at (Broken f) now) at [] (Closes code) at
faulty f now code at e = (Faulty, refl, (f, refl, ap Closes e, record { none_used = refl; same = refl }))

-- ---- acknowledgements

pub acknowledged : (p : Packet) (ack : window.Acknowledgement) (id : ℕ) (answer : Ack) (now : ℕ) (from : Point Open) (effect : Effect) (new : Open)
    → acknowledgement_of p ≡ Some (ack, id) → window.IsAcknowledged ack id from.state.window (Ok answer) new.window → effect ≡ Replies (released_by ack id answer) → new ≡ record from.state { window = new.window }
    → LeadsTo (given_at (Whole p) now) from [] effect (with_state from new)
acknowledged p ack id answer now from effect new is h e s = (Acknowledged, refl, (p, ack, id, answer, refl, is, h, e, refl, s))

-- an acknowledgement is refused only if it is of the wrong kind
wrong : (ack : window.Acknowledgement) (before : Option Kind) (fault : WindowFault) → Err fault ≡ window.answer_to ack before → fault ≡ window_fault.WrongKind
wrong ack None fault e = absurd (cc)
wrong ack (Some k) fault e = left ack (window.kind_acknowledged ack k) e
  where
    left : (ack : window.Acknowledgement) (after : Option Kind) → Err fault ≡ window.answer_left ack after → fault ≡ window_fault.WrongKind
    left ack None e = absurd (cc)
    left window.Puback (Some k) e = cc
    left window.Pubcomp (Some k) e = cc
    left (window.Pubrec code) (Some kind.AtLeastOnce) e = cc
    left (window.Pubrec code) (Some kind.ExactlyOnce) e = cc
    left (window.Pubrec code) (Some kind.Received) e = absurd (cc)

pub not_acknowledged : (p : Packet) (ack : window.Acknowledgement) (id : ℕ) (fault : WindowFault) (now : ℕ) (from : Point Open) (new : Open)
    → acknowledgement_of p ≡ Some (ack, id) → window.IsAcknowledged ack id from.state.window (Err fault) new.window → new ≡ from.state
    → LeadsTo (given_at (Whole p) now) from [] (Closes ProtocolError) (with_state from new)
not_acknowledged p ack id fault now from new is h s =
    (Wrong_acknowledgement, refl, (p, ack, id, refl, is, sym h.0 ∙ ap (λ (f : WindowFault). Err f) (wrong ack _ fault h.0), refl, record { none_used = refl; same = s }))

-- a PUBREC for an identifier that is not in use
pub unknown_low : (code id : ℕ) → code < 0x80 → Replies (Some (reply.Pubrel id (reason_value PacketIdentifierNotFound))) ≡ Replies (released_by (window.Pubrec code) id Ack.Unknown)
unknown_low code id h = let s : ltb code 0x80 ≡ true = lt-ltb _ _ h in rw s refl

pub unknown_high : (code id : ℕ) → 0x80 ≤ code → Replies None ≡ Replies (released_by (window.Pubrec code) id Ack.Unknown)
unknown_high code id h = let s : ltb code 0x80 ≡ false = le-ltb _ _ h in rw s refl

pub released : (a : Acknowledgement) (byte : ℕ) (code : ReasonCode) (now : ℕ) (from : Point Open) (new : Open) → byte ≡ reason_value code → code ≡ released_reason a.id from.state.inbound → new ≡ record from.state { inbound = set.remove from.state.inbound a.id }
    → LeadsTo (given_at (Whole (packet.Pubrel a)) now) from [] (Replies (Some (reply.Pubcomp a.id byte))) (with_state from new)
released a byte code now from new b e s = (Released, refl, (a, refl, ap (λ (n : ℕ). Replies (Some (reply.Pubcomp a.id n))) b ∙ ap (λ (r : ReasonCode). Replies (Some (reply.Pubcomp a.id (reason_value r)))) e, refl, s))

-- ---- PUBLISH

some_effect : (a b : Effect) → Some a ≡ Some b → b ≡ a
some_effect a b e = cc

bad_topic : (p : Publish) (f : TopicFault) (effect : Effect) (now : ℕ) (at : Point Open) → is_some p.alias ≡ false → p.topic ≡ Err f → f ≢ topic_fault.NoMemory → Some (Closes (topic_reason f)) ≡ Some effect
    → LeadsTo (given_at (Whole (packet.Publish p)) now) at [] effect at
bad_topic p f effect now at a t other e = (Bad_topic, refl, (p, f, refl, a, t, other, some_effect _ _ e, record { none_used = refl; same = refl }))

by_id : (p : Publish) (unreleased many : Bool) (effect : Effect) (now : ℕ) (at : Point Open) → is_some p.alias ≡ false → IsTopicOrUnread p.topic
    → is_unreleased (unreleased_id p.qos p.id) at.state.inbound ≡ unreleased → is_one_too_many (unreleased_id p.qos p.id) at.state.inbound ≡ many → effect_of_id unreleased many (acknowledged_by p.qos p.id Success) ≡ Some effect
    → LeadsTo (given_at (Whole (packet.Publish p)) now) at [] effect at
by_id p true many effect now at a t h m e = (Sent_again, refl, (p, refl, a, t, h, some_effect _ _ e, record { none_used = refl; same = refl }))
by_id p false true effect now at a t h m e = (Too_many_unreleased, refl, (p, refl, a, t, m, some_effect _ _ e, record { none_used = refl; same = refl }))
by_id p false false effect now at a t h m e = absurd (cc)

by_topic : (p : Publish) (topic : Result (List ℕ) TopicFault) (rest : Option Effect) (effect : Effect) (now : ℕ) (at : Point Open) → is_some p.alias ≡ false → p.topic ≡ topic
    → (IsTopicOrUnread topic → rest ≡ Some effect → LeadsTo (given_at (Whole (packet.Publish p)) now) at [] effect at)
    → effect_of_topic (topic_refusal topic) rest ≡ Some effect → LeadsTo (given_at (Whole (packet.Publish p)) now) at [] effect at
by_topic p (Ok topic) rest effect now at a t more e = more tt e
by_topic p (Err topic_fault.NoMemory) rest effect now at a t more e = more refl e
by_topic p (Err topic_fault.Empty) rest effect now at a t more e = bad_topic p _ effect now at a t (λ h. cc) e
by_topic p (Err topic_fault.TooLong) rest effect now at a t more e = bad_topic p _ effect now at a t (λ h. cc) e
by_topic p (Err topic_fault.NotUtf8) rest effect now at a t more e = bad_topic p _ effect now at a t (λ h. cc) e
by_topic p (Err topic_fault.HasNul) rest effect now at a t more e = bad_topic p _ effect now at a t (λ h. cc) e
by_topic p (Err topic_fault.HasWildcard) rest effect now at a t more e = bad_topic p _ effect now at a t (λ h. cc) e
by_topic p (Err topic_fault.BadWildcard) rest effect now at a t more e = bad_topic p _ effect now at a t (λ h. cc) e
by_topic p (Err topic_fault.TooManyLevels) rest effect now at a t more e = bad_topic p _ effect now at a t (λ h. cc) e
by_topic p (Err topic_fault.Shared) rest effect now at a t more e = bad_topic p _ effect now at a t (λ h. cc) e

by_alias : (p : Publish) (alias : Option ℕ) (rest : Option Effect) (effect : Effect) (now : ℕ) (at : Point Open) → p.alias ≡ alias
    → (is_some p.alias ≡ false → rest ≡ Some effect → LeadsTo (given_at (Whole (packet.Publish p)) now) at [] effect at)
    → effect_of_alias alias rest ≡ Some effect → LeadsTo (given_at (Whole (packet.Publish p)) now) at [] effect at
by_alias p (Some x) rest effect now at a more e = (With_alias, refl, (p, refl, ap is_some a, some_effect _ _ e, record { none_used = refl; same = refl }))
by_alias p None rest effect now at a more e = more (ap is_some a) e

-- what a PUBLISH leads to before its topic is used
pub before_use : (p : Publish) (effect : Effect) (now : ℕ) (at : Point Open) → effect_before p at.state ≡ Some effect → LeadsTo (given_at (Whole (packet.Publish p)) now) at [] effect at
before_use p effect now at e =
    by_alias p p.alias _ effect now at refl
    (λ a e. by_topic p p.topic _ effect now at a refl (λ t e. by_id p _ _ effect now at a t refl refl e) e) e

-- if it leads to nothing, the PUBLISH is taken
by_no_id : (unreleased many : Bool) (again : Option Reply) → effect_of_id unreleased many again ≡ None → (unreleased ≡ false) × (many ≡ false)
by_no_id true many again e = absurd (cc)
by_no_id false true again e = absurd (cc)
by_no_id false false again e = (refl, refl)

by_no_topic : (code : Option ReasonCode) (rest : Option Effect) → effect_of_topic code rest ≡ None → (code ≡ None) × (rest ≡ None)
by_no_topic (Some x) rest e = absurd (cc)
by_no_topic None rest e = (refl, e)

by_no_alias : (alias : Option ℕ) (rest : Option Effect) → effect_of_alias alias rest ≡ None → (is_some alias ≡ false) × (rest ≡ None)
by_no_alias (Some x) rest e = absurd (cc)
by_no_alias None rest e = (refl, e)

unread : (topic : Result (List ℕ) TopicFault) → topic_refusal topic ≡ None → IsTopicOrUnread topic
unread (Ok topic) e = tt
unread (Err topic_fault.NoMemory) e = refl
unread (Err topic_fault.Empty) e = absurd (cc)
unread (Err topic_fault.TooLong) e = absurd (cc)
unread (Err topic_fault.NotUtf8) e = absurd (cc)
unread (Err topic_fault.HasNul) e = absurd (cc)
unread (Err topic_fault.HasWildcard) e = absurd (cc)
unread (Err topic_fault.BadWildcard) e = absurd (cc)
unread (Err topic_fault.TooManyLevels) e = absurd (cc)
unread (Err topic_fault.Shared) e = absurd (cc)

pub taken : (p : Publish) (o : Open) → effect_before p o ≡ None → IsTaken p o × IsTopicOrUnread p.topic
taken p o e =
    let a = by_no_alias p.alias _ e in
    let t = by_no_topic (topic_refusal p.topic) _ a.1 in
    let i = by_no_id _ _ _ t.1 in
    (record { no_alias = a.0; new = i.0; fits = i.1 }, unread p.topic t.0)

pub id_fits : (p : Publish) (o : Open) → effect_before p o ≡ None → is_one_too_many (unreleased_id p.qos p.id) o.inbound ≡ false
id_fits p o e = (taken p o e).0.fits

pub topic_unread : (p : Publish) (f : TopicFault) (effect : Effect) (now : ℕ) (at : Point Open) → effect_before p at.state ≡ None → p.topic ≡ Err f → effect ≡ Replies (acknowledged_by p.qos p.id QuotaExceeded)
    → LeadsTo (given_at (Whole (packet.Publish p)) now) at [] effect at
topic_unread p f effect now at e t d =
    let h = taken p at.state e in
    let is : f ≡ topic_fault.NoMemory = subst IsTopicOrUnread t h.1 in
    (Topic_unread, refl, (p, refl, h.0, t ∙ ap (λ (x : TopicFault). Err x) is, d, record { none_used = refl; same = refl }))

abbrev message_of : Publish → ℕ → MessageValue
message_of p now = record { payload = p.payload; qos = p.qos; received = now; expiry = p.expiry; properties = p.properties }

-- a publication that the gate was not asked to keep
not_handed : (p : Publish) (topic : List ℕ) (now : ℕ) (at : Point Open) → effect_before p at.state ≡ None → p.topic ≡ Ok topic → p.retain ≡ true → IsHanded p topic (change_of topic (message_of p now) p.payload) now at at
not_handed p topic now at e t r =
    let operation = change_of topic (message_of p now) p.payload in
    record {
      taken = (taken p at.state e).0;
      is_topic = t;
      changes = ap (λ (retain : Bool). operation_of retain topic (message_of p now)) r;
      one_used = record { place = refl; no_lower = omega arith; no_higher = omega arith };
      no_other = nothing_new operation at.mark at.seen;
      sent = inl (nothing_sent at.mark.sent);
    }

-- no memory for the change; it may have been sent ahead
pub not_made : (p : Publish) (topic : List ℕ) (pending : List Operation) (effect : Effect) (now : ℕ) (at : Point Open) → effect_before p at.state ≡ None → p.topic ≡ Ok topic → p.retain ≡ true → effect ≡ effect_of_no_memory pending p.qos p.id
    → LeadsTo (given_at (Whole (packet.Publish p)) now) at [] effect at
not_made p topic [] effect now at e t r d = (Not_stored, refl, (p, topic, change_of topic (message_of p now) p.payload, refl, not_handed p topic now at e t r, d, refl))
not_made p topic (operation ∷ operations) effect now at e t r d = (Uncertain, refl, (p, topic, change_of topic (message_of p now) p.payload, refl, not_handed p topic now at e t r, d, refl))

unretained : (retain : Bool) (topic : List ℕ) (m : MessageValue) → operation_of retain topic m ≡ None → retain ≡ false
unretained true topic m c = absurd (cc)
unretained false topic m c = refl

pub not_retained : (p : Publish) (topic : List ℕ) (effect : Effect) (now : ℕ) (from : Point Open) (new : Open) → effect_before p from.state ≡ None → p.topic ≡ Ok topic → change p topic now ≡ None
    → effect ≡ Replies (acknowledged_by p.qos p.id Success) → new ≡ awaiting_release p from.state → LeadsTo (given_at (Whole (packet.Publish p)) now) from [] effect (with_state from new)
not_retained p topic effect now from new e t c d s =
    (Not_retained, refl, (p, topic, refl, (taken p from.state e).0, t, unretained p.retain topic _ c, d, refl, s))

settled : (p : Publish) (topic : List ℕ) (operation : Operation) (now : ℕ) (from : Point Open) (effect : Effect) (to : Point Open)
    → IsHanded p topic operation now from to → IsConcluded operation p.qos p.id from effect to → LeadsTo (given_at (Whole (packet.Publish p)) now) from [] effect to
settled p topic operation now from effect to may h =
    elim h as (λ h. LeadsTo (given_at (Whole (packet.Publish p)) now) from [] effect to) [
      | inl k ↦ (Stored, refl, (p, topic, operation, refl, may, k.0, k.1, k.2))
      | inr h ↦ elim h as (λ h. LeadsTo (given_at (Whole (packet.Publish p)) now) from [] effect to) [
        | inl k ↦ (Not_stored, refl, (p, topic, operation, refl, may, k.0, k.1))
        | inr h ↦ elim h as (λ h. LeadsTo (given_at (Whole (packet.Publish p)) now) from [] effect to) [
          | inl k ↦ (Uncertain, refl, (p, topic, operation, refl, may, k.0, k.1))
          | inr k ↦ (Gate_closed, refl, (p, topic, operation, refl, may, k.0, k.1))
        ]
      ]
    ]

pub submitted : {G : Type 0} (stands : G → List Entry → Type 0) (mark : G → Mark) (before after : G) (p : Publish) (topic : List ℕ) (operation : Operation) (now : ℕ) (effect : Effect) (old new : Open)
    → effect_before p old ≡ None → p.topic ≡ Ok topic → change p topic now ≡ Some operation → Uses (mark before) (mark after)
    → SendsAtMost (mark before).sent (entry_by operation (mark after)) (mark after).sent
    → Grows (stands before) (stands after) (λ seen list. IsHandedOver operation (mark after) seen list × IsConcluded operation p.qos p.id (point_at old seen (mark before)) effect (point_at new list (mark after)))
    → GrowsAnswering stands mark before after (λ seen answered list. LeadsTo (given_at (Whole (packet.Publish p)) now) (point_at old seen (mark before)) answered effect (point_at new list (mark after)))
submitted stands mark before after p topic operation now effect old new e t c u sent h =
    none_answered stands mark before after (λ seen answered list. LeadsTo (given_at (Whole (packet.Publish p)) now) (point_at old seen (mark before)) answered effect (point_at new list (mark after)))
    (Grows-weaker (stands before) (stands after) (λ seen list. IsHandedOver operation (mark after) seen list × IsConcluded operation p.qos p.id (point_at old seen (mark before)) effect (point_at new list (mark after))) _
    (λ seen list k. settled p topic operation now (point_at old seen (mark before)) effect (point_at new list (mark after)) (record { taken = (taken p old e).0; is_topic = t; changes = c; one_used = u; no_other = k.0; sent = sent }) k.1) h)

-- ---- the filters of a SUBSCRIBE and of an UNSUBSCRIBE

pub prefix_itself : (a : List Entry) → Extends a a
prefix_itself a = ([], sym (append-nil a))

pub prefix_trans : (a b c : List Entry) → Extends b a → Extends c b → Extends c a
prefix_trans a b c (x, p) (y, q) = (x ++ y, q ∙ ap (λ l. l ++ y) p ∙ append_assoc a x y)

-- one more filter
pub grants_more : (now : ℕ) (filters : List Asked) (identifier : Option ℕ) (from : Point Open) (codes : List ℕ) (answered : List (List Entry)) (mid : Point Open) (asked : Asked) (code : ℕ) (to : Point Open)
    → Grants now filters identifier from codes answered mid → Extends to.seen mid.seen → IsGranted now asked identifier to.seen mid.state code to.state
    → Grants now (filters ++ asked ∷ []) identifier from (codes ++ code ∷ []) (answered ++ to.seen ∷ []) to
grants_more now [] identifier from codes answered mid asked code to (c, a, seen, same) grows step =
    (code, [], [], to, ap (λ l. l ++ code ∷ []) c, ap (λ l. l ++ to.seen ∷ []) a, subst (Extends to.seen) seen grows, subst (λ (o : Open). IsGranted now asked identifier to.seen o code to.state) same step, (refl, refl, refl, refl))
grants_more now (f ∷ fs) identifier from codes answered mid asked code to (first, rest, later, between, c, a, begun, granted, h) grows step =
    (first, rest ++ code ∷ [], later ++ to.seen ∷ [], between, ap (λ l. l ++ code ∷ []) c, ap (λ l. l ++ to.seen ∷ []) a, begun, granted, grants_more now fs identifier between rest later mid asked code to h grows step)

pub grants_grow : (now : ℕ) (filters : List Asked) (identifier : Option ℕ) (from : Point Open) (codes : List ℕ) (answered : List (List Entry)) (to : Point Open) → Grants now filters identifier from codes answered to → Extends to.seen from.seen
grants_grow now [] identifier from codes answered to (c, a, seen, same) = subst (Extends to.seen) seen (prefix_itself to.seen)
grants_grow now (f ∷ fs) identifier from codes answered to (first, rest, later, between, c, a, begun, granted, h) = prefix_trans from.seen between.seen to.seen begun (grants_grow now fs identifier between rest later to h)

-- a gate stood for one more
pub stood_more : {G : Type 0} (stands : G → List Entry → Type 0) (mark_of : G → Mark) (mark : Mark) (answered : List (List Entry)) (list : List Entry)
    → All (StandsAt stands mark_of mark) answered → StandsAt stands mark_of mark list → All (StandsAt stands mark_of mark) (answered ++ list ∷ [])
stood_more stands mark_of mark answered list each one =
    All-append (StandsAt stands mark_of mark) answered (list ∷ []) each (All-cons (StandsAt stands mark_of mark) list [] one (All-nil (StandsAt stands mark_of mark)))

pub shared_refused : (s : Subscribe) (now : ℕ) (at : Point Open) → list_any is_shared_local s.filters ≡ true → LeadsTo (given_at (Whole (packet.Subscribe s)) now) at [] (Closes ProtocolError) at
shared_refused s now at h = (Shared_no_local, refl, (s, refl, h, refl, record { none_used = refl; same = refl }))

pub not_subscribed : (s : Subscribe) (now : ℕ) (at : Point Open) → list_any is_shared_local s.filters ≡ false → LeadsTo (given_at (Whole (packet.Subscribe s)) now) at [] (Closes QuotaExceeded) at
not_subscribed s now at h = (Not_subscribed, refl, (s, refl, h, refl, record { none_used = refl; same = refl }))

pub same_codes : (id other : ℕ) (codes more : List ℕ) → id ≡ other → codes ≡ more → (let a : CodesValue = record { id = id; codes = codes } in a) ≡ (record { id = other; codes = more })
same_codes id other codes more e f = λ j. record { id = e j; codes = f j }

-- the codes of all filters are replied
pub subscribed : (s : Subscribe) (codes : List ℕ) (c : CodesValue) (now : ℕ) (from : Point Open) (answered : List (List Entry)) (to : Point Open)
    → list_any is_shared_local s.filters ≡ false → to.mark ≡ from.mark → c ≡ record { id = s.id; codes = codes } → Grants now s.filters s.subscription from codes answered to
    → LeadsTo (given_at (Whole (packet.Subscribe s)) now) from answered (Replies (Some (reply.Suback c))) to
subscribed s codes c now from answered to n u e h =
    (Subscribed, tt, (s, codes, refl, n, h, ap (λ (x : CodesValue). Replies (Some (reply.Suback x))) e, u))

-- one more filter to be removed
pub codes_more : (filters : List Filter) (filter : Filter) (subscriptions : Subscriptions) → removal_codes (filters ++ filter ∷ []) subscriptions ≡ removal_codes filters subscriptions ++ reason_value (removal_reason filter (without_all filters subscriptions)) ∷ []
codes_more [] filter subscriptions = refl
codes_more (f ∷ fs) filter subscriptions = ap (λ (l : List ℕ). reason_value (removal_reason f subscriptions) ∷ l) (codes_more fs filter (without f subscriptions))

pub without_more : (filters : List Filter) (filter : Filter) (subscriptions : Subscriptions) → without_all (filters ++ filter ∷ []) subscriptions ≡ without filter (without_all filters subscriptions)
without_more [] filter subscriptions = refl
without_more (f ∷ fs) filter subscriptions = without_more fs filter (without f subscriptions)

pub removed_code : (so_far all : List Filter) (filter : Filter) (first mid : Open) (codes more : List ℕ) (code : ReasonCode) → all ≡ so_far ++ filter ∷ [] → codes ≡ removal_codes so_far first.subscriptions
    → mid ≡ record first { subscriptions = without_all so_far first.subscriptions } → code ≡ removal_reason filter mid.subscriptions → more ≡ codes ++ reason_value code ∷ [] → more ≡ removal_codes all first.subscriptions
removed_code so_far all filter first mid codes more code a c m k e =
    let is : code ≡ removal_reason filter (without_all so_far first.subscriptions) = k ∙ ap (λ (o : Open). removal_reason filter o.subscriptions) m in
    e ∙ (ap (λ (l : List ℕ). l ++ reason_value code ∷ []) c ∙ (ap (λ (n : ReasonCode). removal_codes so_far first.subscriptions ++ reason_value n ∷ []) is
    ∙ (sym (codes_more so_far filter first.subscriptions) ∙ ap (λ (l : List Filter). removal_codes l first.subscriptions) (sym a))))

pub removed_all : (so_far all : List Filter) (filter : Filter) (first mid new : Open) → all ≡ so_far ++ filter ∷ [] → mid ≡ record first { subscriptions = without_all so_far first.subscriptions }
    → new ≡ record mid { subscriptions = without filter mid.subscriptions } → new ≡ record first { subscriptions = without_all all first.subscriptions }
removed_all so_far all filter first mid new a m e =
    let Set : Subscriptions → Open = λ s. record first { subscriptions = s } in
    let Take : Open → Open = λ o. record o { subscriptions = without filter o.subscriptions } in
    e ∙ (ap Take m ∙ (ap Set (sym (without_more so_far filter first.subscriptions)) ∙ ap (λ (l : List Filter). Set (without_all l first.subscriptions)) (sym a)))

pub not_unsubscribed : (u : Unsubscribe) (now : ℕ) (at : Point Open) → LeadsTo (given_at (Whole (packet.Unsubscribe u)) now) at [] (Closes QuotaExceeded) at
not_unsubscribed u now at = (Not_unsubscribed, refl, (u, refl, refl, record { none_used = refl; same = refl }))

pub unsubscribed : (u : Unsubscribe) (c : CodesValue) (now : ℕ) (from : Point Open) (new : Open)
    → c ≡ record { id = u.id; codes = removal_codes u.filters from.state.subscriptions } → new ≡ record from.state { subscriptions = without_all u.filters from.state.subscriptions }
    → LeadsTo (given_at (Whole (packet.Unsubscribe u)) now) from [] (Replies (Some (reply.Unsuback c))) (with_state from new)
unsubscribed u c now from new e s =
    (Unsubscribed, refl, (u, refl, ap (λ (x : CodesValue). Replies (Some (reply.Unsuback x))) e, refl, s))

-- a new subscription that is taken out again leaves all as before
pub taken_out : (old mid new : Open) (filter key : List ℕ) (subscription : Subscription) (kept left : Subscriptions) → is_subscribed filter old.subscriptions ≡ false → key ≡ filter
    → kept ≡ finite.insert old.subscriptions key subscription → mid ≡ record old { subscriptions = kept } → new ≡ mid → left ≡ finite.remove new.subscriptions filter → record new { subscriptions = left } ≡ old
taken_out old mid new filter key subscription kept left absent k e m n l =
    let Set : Subscriptions → Open = λ s. record old { subscriptions = s } in
    let is : new ≡ Set (finite.insert old.subscriptions filter subscription) =
    n ∙ (m ∙ ap Set (e ∙ ap (λ (f : List ℕ). finite.insert old.subscriptions f subscription) k)) in
    let gone : left ≡ old.subscriptions = l ∙ (ap (λ (o : Open). finite.remove o.subscriptions filter) is ∙ remove_inserted old.subscriptions filter subscription (get_absent old.subscriptions filter absent)) in
    ap (λ (o : Open). let p : Open = record o { subscriptions = left } in p) is ∙ ap Set gone

-- ---- the other packets

pub connected_twice : (p : Packet) (c : Connect) (now : ℕ) (at : Point Open) → p ≡ packet.Connect c → LeadsTo (given_at (Whole p) now) at [] (Closes ProtocolError) at
connected_twice p c now at e = (Connected_twice, refl, (c, ap Whole e, refl, record { none_used = refl; same = refl }))

pub pinged : (p : Packet) (now : ℕ) (at : Point Open) → p ≡ packet.Pingreq → LeadsTo (given_at (Whole p) now) at [] (Replies (Some reply.Pingresp)) at
pinged p now at e = (Pinged, refl, (ap Whole e, refl, record { none_used = refl; same = refl }))

pub disconnected : (p : Packet) (code : ℕ) (now : ℕ) (at : Point Open) → p ≡ packet.Disconnect code → LeadsTo (given_at (Whole p) now) at [] Leaves at
disconnected p code now at e = (Disconnected, refl, (code, ap Whole e, refl, record { none_used = refl; same = refl }))

-- ---- a session

-- a gate that a method left as it was
pub stays : {G : Type 0} (stands : G → List Entry → Type 0) (mark : G → Mark) (given : Given) (old mid new : Session G) → new ≡ mid → gate_of mid ≡ gate_of old
    → ((list : List Entry) → Answers given (session_at mark old list) [] (due_of mid) (with_state (session_at mark old list) (state_of mid)))
    → GrowsAnswering stands mark (gate_of old) (gate_of new) (λ seen answered list. Answers given (session_at mark old seen) answered (due_of new) (session_at mark new list))
stays {G} stands mark given old mid new e g h =
    subst (λ (s : Session G). GrowsAnswering stands mark (gate_of old) (gate_of s) (λ seen answered list. Answers given (session_at mark old seen) answered (due_of s) (session_at mark s list))) (sym e)
    (unmoved stands mark (gate_of old) (gate_of mid) (λ seen answered list used. Answers given (session_at mark old seen) answered (due_of mid) (point_at (state_of mid) list used)) g h)

-- what an effect leaves does not depend on the phase before
pub after_same : (effect : Effect) (a b : State) (o : Open) → a.assigned ≡ b.assigned → state_after effect a o ≡ state_after effect b o
after_same (Replies r) a b o e = ap (λ (l : List ℕ). let s : State = record { phase = phase.Open o; assigned = l } in s) e
after_same (Closes code) a b o e = ap (λ (l : List ℕ). let s : State = record { phase = phase.Ended (ByServer (reason_value code)); assigned = l } in s) e
after_same Leaves a b o e = ap (λ (l : List ℕ). let s : State = record { phase = phase.Ended ByClient; assigned = l } in s) e

-- an open session took a packet
pub took : {G : Type 0} (stands : G → List Entry → Type 0) (mark : G → Mark) (given : Given) (old mid new : Session G) (o left : Open) (gate : G) (effect : Effect) (maximum : ℕ)
    → new ≡ mid → gate_of mid ≡ gate → (state_of old).phase ≡ phase.Open o → maximum ≡ o.window.packet_maximum → due_of mid ≡ due_for maximum effect → state_of mid ≡ state_after effect (state_of old) left
    → GrowsAnswering stands mark (gate_of old) gate (λ seen answered list. LeadsTo given (point_at o seen (mark (gate_of old))) answered effect (point_at left list (mark gate)))
    → GrowsAnswering stands mark (gate_of old) (gate_of new) (λ seen answered list. Answers given (session_at mark old seen) answered (due_of new) (session_at mark new list))
took {G} stands mark given old mid new o left gate effect maximum e g p l d s h =
    subst (λ (x : Session G). GrowsAnswering stands mark (gate_of old) (gate_of x) (λ seen answered list. Answers given (session_at mark old seen) answered (due_of x) (session_at mark x list))) (sym e)
    (subst (λ (x : G). GrowsAnswering stands mark (gate_of old) x (λ seen answered list. Answers given (session_at mark old seen) answered (due_of mid) (point_at (state_of mid) list (mark x)))) (sym g)
    (Grows-weaker _ _ _ _ (λ seen list k. (k.0, k.1, concluded given (session_at mark old seen) o k.0 effect maximum left (due_of mid) (point_at (state_of mid) list (mark gate)) p l k.2 d s)) h))
