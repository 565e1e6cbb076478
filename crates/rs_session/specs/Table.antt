-- What a session answers to each input: one row for each case.
use Rattle.std.specs.Prelude.{◌≡◌, ◌≢◌, ℕ, ◌-◌, ◌^◌, ◌<◌, ◌≤◌, ◌==◌, ◌⊎◌, Bool, true, false, ◌&&◌, not, nat_lt, if◌then◌else◌, is_some, MatchBool, List, [], ◌∷◌, length, Option, Some, None, option_map, Result, Ok, Err}
use Rattle.std.specs.List.{list_any}
use Rattle.std.specs.FinMap as finite
use Rattle.std.specs.FinSet as set
use Rattle.std.specs.Ordering.{nat_cmp}
use Rattle.rs_topic.specs.declared.text.TopicFault.{TopicFault}
use Rattle.rs_topic.specs.declared.text.TopicFault.TheVariants as topic_fault
use Rattle.rs_packet.specs.declared.limits.TheConstants.{RECEIVE_MAXIMUM}
use Rattle.rs_packet.specs.Faults.{PacketFault}
use Rattle.rs_packet.specs.Faults.{Malformed, Protocol, TooLarge, Version, NoMemory}
use Rattle.rs_message.specs.declared.qos.Qos.{Qos}
use Rattle.rs_message.specs.declared.qos.Qos.TheVariants.{AtMostOnce, AtLeastOnce, ExactlyOnce}
use Rattle.rs_packet.specs.declared.packet.Acknowledgement.{Acknowledgement}
use Rattle.rs_packet.specs.declared.packet.Connect.{Connect}
use Rattle.rs_packet.specs.declared.packet.Publish.{Publish}
use Rattle.rs_packet.specs.declared.packet.Subscribe.{Subscribe}
use Rattle.rs_packet.specs.declared.packet.Unsubscribe.{Unsubscribe}
use Rattle.rs_packet.specs.declared.packet.Packet.{Packet}
use Rattle.rs_packet.specs.declared.packet.Packet.TheVariants as packet
use Rattle.rs_packet.specs.declared.reply.Reply.{Reply}
use Rattle.rs_packet.specs.declared.reply.Reply.TheVariants as reply
use Rattle.rs_packet.specs.Values.{Asked, Filter}
use Rattle.rs_message.specs.Sizes.{level}
use Rattle.rs_packet.specs.Replies.{reply_bytes}
use Rattle.rs_message.specs.Messages.{operation_of}
use Rattle.rs_message.specs.declared.entry.Entry.{Entry}
use Rattle.rs_message.specs.declared.found.Found.{Found}
use Rattle.rs_message.specs.declared.entry.Operation.{Operation}
use Rattle.rs_store.specs.History.{IsAnswer}
use Rattle.rs_window.specs.Calls as window
use Rattle.rs_window.specs.declared.fault.Ack.{Ack}
use Rattle.rs_window.specs.declared.fault.WindowFault.TheVariants.{WrongKind}
use Rattle.rs_session.specs.Gate.{Mark, Extends, Uses, IsSubmitted, IsHandedOver, SendsAtMost, entry_by}
use Rattle.rs_session.specs.Points.{Given, Point, given_at, point_at, with_state}
use Rattle.rs_session.specs.Reasons.{reason_value}
use Rattle.rs_session.specs.declared.reason.ReasonCode.{ReasonCode}
use Rattle.rs_session.specs.declared.reason.ReasonCode.TheVariants.{Success, MalformedPacket, ProtocolError, ImplementationSpecificError, UnsupportedProtocolVersion, BadAuthenticationMethod, TopicFilterInvalid, TopicNameInvalid, PacketIdentifierNotFound, ReceiveMaximumExceeded, TopicAliasInvalid, PacketTooLarge, QuotaExceeded, SharedSubscriptionsNotSupported, NoSubscriptionExisted}
use Rattle.rs_session.specs.Subscriptions.{Subscriptions, is_subscribed, can_subscribe, replays}
use Rattle.rs_session.specs.declared.subscriptions.Subscription.{Subscription}
use Rattle.rs_session.specs.State.{State, opened, ended, within}
use Rattle.rs_session.specs.declared.open.Open.{Open}
use Rattle.rs_session.specs.declared.open.Effect.{Effect}
use Rattle.rs_session.specs.declared.open.Effect.TheVariants.{Replies, Closes, Leaves}
use Rattle.rs_session.specs.declared.phase.Closing.{Closing}
use Rattle.rs_session.specs.declared.phase.Closing.TheVariants.{ByClient, ByServer, Dropped}
use Rattle.rs_session.specs.declared.phase.Phase.TheVariants as phase
use Rattle.rs_session.specs.declared.phase.Input.{Input}
use Rattle.rs_session.specs.declared.phase.Input.TheVariants.{Whole, Broken}

-- ---- 3.1, 3.2: CONNECT and CONNACK

-- 3.1.2.11.3: without a Receive Maximum it is the greatest number
abbrev pub receive_maximum : Option ℕ → ℕ
receive_maximum None = 2 ^ 16 - 1
receive_maximum (Some maximum) = maximum

-- 3.1.2.11.4: without a Maximum Packet Size it is the greatest number
abbrev pub packet_maximum : Option ℕ → ℕ
packet_maximum None = 2 ^ 32 - 1
packet_maximum (Some maximum) = maximum

-- 3.2.2.3.2: the session ends with its connection; a client that asked for more is told so
abbrev pub is_longer : Option ℕ → Bool
is_longer None = false
is_longer (Some seconds) = nat_lt 0 seconds

-- 3.2.2.3.7: a client without an identifier is told the one that it got
abbrev pub assigned_for : Option (List ℕ) → List ℕ → Option (List ℕ)
assigned_for None assigned = None
assigned_for (Some client) assigned = if length client == 0 then Some assigned else None

abbrev pub connack : Connect → State → Reply
connack c old = reply.ConnackAccepted
    (record { session_expiry_zero = is_longer c.session_expiry; assigned_client = assigned_for c.client old.assigned })

-- a session that was just opened
abbrev pub open_for : Connect → Open
open_for c = record {
  subscriptions = finite.empty;
  inbound = set.empty;
  window = window.fresh (receive_maximum c.receive_maximum) (packet_maximum c.packet_maximum);
}

-- ---- 3.3 to 3.7: PUBLISH and its acknowledgements

-- what a PUBLISH would do to the topic's retained message
abbrev pub change : Publish → List ℕ → ℕ → Option Operation
change p topic now = operation_of p.retain topic
    (record { payload = p.payload; qos = p.qos; received = now; expiry = p.expiry; properties = p.properties })

-- the code for a topic that is not a topic name
abbrev pub topic_reason : TopicFault → ReasonCode
topic_reason topic_fault.Empty = ProtocolError
topic_reason _ = TopicNameInvalid

-- a name, or one for which memory was refused
abbrev pub IsTopicOrUnread : Result (List ℕ) TopicFault → Type 0
IsTopicOrUnread (Ok topic) = Unit {0}
IsTopicOrUnread (Err fault) = fault ≡ topic_fault.NoMemory

-- nothing at QoS 0, a PUBACK at QoS 1, a PUBREC at QoS 2
abbrev pub acknowledged_by : Qos → Option ℕ → ReasonCode → Option Reply
acknowledged_by AtMostOnce id code = None
acknowledged_by AtLeastOnce id code = option_map (λ n. reply.Puback n (reason_value code)) id
acknowledged_by ExactlyOnce id code = option_map (λ n. reply.Pubrec n (reason_value code)) id

-- 4.3.3: the identifier of a PUBLISH of QoS 2, which its PUBREL releases
abbrev pub unreleased_id : Qos → Option ℕ → Option ℕ
unreleased_id AtMostOnce id = None
unreleased_id AtLeastOnce id = None
unreleased_id ExactlyOnce id = id

abbrev pub is_unreleased : Option ℕ → set.FinSet nat_cmp → Bool
is_unreleased None unreleased = false
is_unreleased (Some id) unreleased = set.contains unreleased id

abbrev pub unreleased_with : Option ℕ → set.FinSet nat_cmp → set.FinSet nat_cmp
unreleased_with None unreleased = unreleased
unreleased_with (Some id) unreleased = set.insert unreleased id

-- 3.3.4: as many as the server's Receive Maximum are not released, and this one is another
abbrev pub is_one_too_many : Option ℕ → set.FinSet nat_cmp → Bool
is_one_too_many None unreleased = false
is_one_too_many (Some id) unreleased = not (set.contains unreleased id) && set.len unreleased == RECEIVE_MAXIMUM

-- neither sent again, nor one too many
pub record IsTaken (p : Publish) (o : Open) : Type 0 where
  pub no_alias : is_some p.alias ≡ false
  pub new : is_unreleased (unreleased_id p.qos p.id) o.inbound ≡ false
  pub fits : is_one_too_many (unreleased_id p.qos p.id) o.inbound ≡ false

-- its identifier awaits its PUBREL from now on
abbrev pub awaiting_release : Publish → Open → Open
awaiting_release p o = record o { inbound = unreleased_with (unreleased_id p.qos p.id) o.inbound }

-- 3.4, 3.5, 3.7: which packets acknowledge what the server sent
abbrev pub acknowledgement_of : Packet → Option (window.Acknowledgement × ℕ)
acknowledgement_of (packet.Puback a) = Some (window.Puback, a.id)
acknowledgement_of (packet.Pubrec a) = Some (window.Pubrec a.code, a.id)
acknowledgement_of (packet.Pubcomp a) = Some (window.Pubcomp, a.id)
acknowledgement_of _ = None

-- 4.3.3: a PUBREC below 0x80 is answered by a PUBREL, and no other acknowledgement is answered
abbrev pub released_by : window.Acknowledgement → ℕ → Ack → Option Reply
released_by window.Puback id ack = None
released_by window.Pubcomp id ack = None
released_by (window.Pubrec code) id Ack.Released = Some (reply.Pubrel id (reason_value Success))
released_by (window.Pubrec code) id Ack.Freed = None
released_by (window.Pubrec code) id Ack.Unknown = if nat_lt code 0x80 then Some (reply.Pubrel id (reason_value PacketIdentifierNotFound))
    else None

-- 3.7.2.1: a PUBREL for an identifier that awaits it, or does not
abbrev pub released_reason : ℕ → set.FinSet nat_cmp → ReasonCode
released_reason id unreleased = if set.contains unreleased id then Success else PacketIdentifierNotFound

-- ---- 3.8, 3.9: SUBSCRIBE and SUBACK

-- 4.8.2
abbrev pub is_shared : Filter → Bool
is_shared (Err topic_fault.Shared) = true
is_shared _ = false

-- 3.8.3.1: a shared subscription with No Local
abbrev pub is_shared_local : Asked → Bool
is_shared_local asked = is_shared asked.0 && asked.1.no_local

-- 3.9.3: the code for a filter that is not a topic filter
abbrev pub filter_reason : TopicFault → ReasonCode
filter_reason topic_fault.Shared = SharedSubscriptionsNotSupported
filter_reason topic_fault.NoMemory = QuotaExceeded
filter_reason _ = TopicFilterInvalid

-- what waits after a replay: after the rest, all that the list answers
abbrev pub IsQueued : ℕ → List ℕ → Subscription → List Entry → Open → Open → Type 0
IsQueued now filter subscription list old new =
    (found : List Found) × IsAnswer list filter now found
    × window.IsQueued found subscription.options.qos subscription.identifier old.window (Ok tt) new.window

-- The session can subscribe to the filter, and its subscription is new or replaces the one before. If Retain Handling says so,
-- the retained messages wait after the rest.
pub record IsSubscribed (now : ℕ) (filter : List ℕ) (subscription : Subscription) (list : List Entry) (old new : Open) : Type 0 where
  pub fits : can_subscribe filter old.subscriptions ≡ true
  pub kept : new.subscriptions ≡ finite.insert old.subscriptions filter subscription
  pub replay : MatchBool (replays subscription.options.retain_handling (is_subscribed filter old.subscriptions))
      (IsQueued now filter subscription list old new) (new.window ≡ old.window)
  pub inbound : new.inbound ≡ old.inbound

-- One filter: its fault, its subscription, or a refusal, after which all is as before. A refusal comes if
-- the session has too many, if too many would wait, or if memory is refused, which may be at any time.
abbrev pub IsGrantedTo : Filter → Subscription → ℕ → List Entry → Open → ℕ → Open → Type 0
IsGrantedTo (Err fault) subscription now list old code new = (code ≡ reason_value (filter_reason fault)) × (new ≡ old)
IsGrantedTo (Ok filter) subscription now list old code new = ((code ≡ level subscription.options.qos)
    × IsSubscribed now filter subscription list old new) ⊎ ((code ≡ reason_value QuotaExceeded) × (new ≡ old))

-- what is kept of a filter that is granted
abbrev pub subscription_for : Asked → Option ℕ → Subscription
subscription_for asked identifier = record { options = asked.1; identifier = identifier }

-- by the list that the gate stands for when it is asked
abbrev pub IsGranted : ℕ → Asked → Option ℕ → List Entry → Open → ℕ → Open → Type 0
IsGranted now asked identifier list old code new = IsGrantedTo asked.0 (subscription_for asked identifier) now list old code new

-- One filter after the other, each by the next of the answered lists, of which the one before is a prefix. Of the marks it
-- says nothing.
abbrev pub Grants : ℕ → List Asked → Option ℕ → Point Open → List ℕ → List (List Entry) → Point Open → Type 0
Grants now [] identifier from codes answered to = (codes ≡ []) × (answered ≡ []) × (to.seen ≡ from.seen) × (to.state ≡ from.state)
Grants now (asked ∷ more) identifier from codes answered to =
    (code : ℕ) × (rest : List ℕ) × (later : List (List Entry)) × (between : Point Open) × (codes ≡ code ∷ rest)
    × (answered ≡ between.seen ∷ later)
    × Extends between.seen from.seen × IsGranted now asked identifier between.seen from.state code between.state
    × Grants now more identifier between rest later to

-- ---- 3.10, 3.11: UNSUBSCRIBE and UNSUBACK

-- one filter
abbrev pub removal_reason : Filter → Subscriptions → ReasonCode
removal_reason (Err topic_fault.Shared) subscriptions = NoSubscriptionExisted
removal_reason (Err fault) subscriptions = TopicFilterInvalid
removal_reason (Ok filter) subscriptions = if is_subscribed filter subscriptions then Success else NoSubscriptionExisted

abbrev pub without : Filter → Subscriptions → Subscriptions
without (Err fault) subscriptions = subscriptions
without (Ok filter) subscriptions = finite.remove subscriptions filter

-- one filter after the other
abbrev pub removal_codes : List Filter → Subscriptions → List ℕ
removal_codes [] subscriptions = []
removal_codes (filter ∷ more) subscriptions = reason_value (removal_reason filter subscriptions) ∷ removal_codes more
    (without filter subscriptions)

abbrev pub without_all : List Filter → Subscriptions → Subscriptions
without_all [] subscriptions = subscriptions
without_all (filter ∷ more) subscriptions = without_all more (without filter subscriptions)

-- ---- an open session

-- 4.13
abbrev pub fault_reason : PacketFault → ReasonCode
fault_reason Malformed = MalformedPacket
fault_reason Protocol = ProtocolError
fault_reason TooLarge = PacketTooLarge
fault_reason Version = ProtocolError
fault_reason NoMemory = QuotaExceeded

-- The names of the rows. Each row's conditions also leave out the inputs of the rows above it.
pub data OpenCase : Type 0 where
  Connected_twice : OpenCase
  Faulty : OpenCase
  With_alias : OpenCase
  Bad_topic : OpenCase
  Sent_again : OpenCase
  Too_many_unreleased : OpenCase
  Not_retained : OpenCase
  Stored : OpenCase
  Topic_unread : OpenCase
  Not_stored : OpenCase
  Uncertain : OpenCase
  Gate_closed : OpenCase
  Released : OpenCase
  Wrong_acknowledgement : OpenCase
  Acknowledged : OpenCase
  Shared_no_local : OpenCase
  Not_subscribed : OpenCase
  Subscribed : OpenCase
  Not_unsubscribed : OpenCase
  Unsubscribed : OpenCase
  Pinged : OpenCase
  Disconnected : OpenCase

-- A PUBLISH that the rows before those of a submit let pass. It is handed to the store at most once, and no other change
-- than its own is; so at QoS 0 too, and if it is refused. Nothing else is sent.
pub record IsHanded (p : Publish) (topic : List ℕ) (operation : Operation) (now : ℕ) (from to : Point Open) : Type 0 where
  pub taken : IsTaken p from.state
  pub is_topic : p.topic ≡ Ok topic
  pub changes : change p topic now ≡ Some operation
  pub one_used : Uses from.mark to.mark
  pub no_other : IsHandedOver operation to.mark from.seen to.seen
  pub sent : SendsAtMost from.mark.sent (entry_by operation to.mark) to.mark.sent

-- the session stays as it was, and no serial is used
pub record IsUnchanged (from to : Point Open) : Type 0 where
  pub none_used : to.mark ≡ from.mark
  pub same : to.state ≡ from.state

-- What a row does in an open session with what it is given, from the point before to the point after, and what it leads
-- to: a reply or none, a DISCONNECT with this code, or the end by the client. `answered` are the lists by which the
-- filters of a SUBSCRIBE are answered, one for each.
abbrev pub OpenRow : OpenCase → Given → Point Open → List (List Entry) → Effect → Point Open → Type 0
-- 3.1: a second CONNECT
OpenRow Connected_twice given from answered effect to =
    (c : Connect) × (given.input ≡ Whole (packet.Connect c)) × (effect ≡ Closes ProtocolError) × IsUnchanged from to
OpenRow Faulty given from answered effect to =
    (fault : PacketFault) × (given.input ≡ Broken fault) × (effect ≡ Closes (fault_reason fault)) × IsUnchanged from to
-- 3.3.2.3.4: CONNACK allowed none
OpenRow With_alias given from answered effect to =
    (p : Publish) × (given.input ≡ Whole (packet.Publish p)) × (is_some p.alias ≡ true) × (effect ≡ Closes TopicAliasInvalid)
    × IsUnchanged from to
-- 3.3.2.1
OpenRow Bad_topic given from answered effect to =
    (p : Publish) × (fault : TopicFault) × (given.input ≡ Whole (packet.Publish p)) × (is_some p.alias ≡ false) × (p.topic ≡ Err fault)
    × (fault ≢ topic_fault.NoMemory)
    × (effect ≡ Closes (topic_reason fault)) × IsUnchanged from to
-- 4.3.3: it is the same publication
OpenRow Sent_again given from answered effect to =
    (p : Publish) × (given.input ≡ Whole (packet.Publish p)) × (is_some p.alias ≡ false) × IsTopicOrUnread p.topic
    × (is_unreleased (unreleased_id p.qos p.id) from.state.inbound ≡ true)
    × (effect ≡ Replies (acknowledged_by p.qos p.id Success)) × IsUnchanged from to
-- 3.3.4
OpenRow Too_many_unreleased given from answered effect to =
    (p : Publish) × (given.input ≡ Whole (packet.Publish p)) × (is_some p.alias ≡ false) × IsTopicOrUnread p.topic
    × (is_one_too_many (unreleased_id p.qos p.id) from.state.inbound ≡ true)
    × (effect ≡ Closes ReceiveMaximumExceeded) × IsUnchanged from to
-- 3.3.1.3: RETAIN 0 changes nothing
OpenRow Not_retained given from answered effect to =
    (p : Publish) × (topic : List ℕ) × (given.input ≡ Whole (packet.Publish p)) × IsTaken p from.state × (p.topic ≡ Ok topic)
    × (p.retain ≡ false)
    × (effect ≡ Replies (acknowledged_by p.qos p.id Success)) × (to.mark ≡ from.mark) × (to.state ≡ awaiting_release p from.state)
OpenRow Stored given from answered effect to =
    (p : Publish) × (topic : List ℕ) × (operation : Operation) × (given.input ≡ Whole (packet.Publish p))
    × IsHanded p topic operation given.now from to × IsSubmitted operation from.mark to.mark to.seen
    × (effect ≡ Replies (acknowledged_by p.qos p.id Success)) × (to.state ≡ awaiting_release p from.state)
-- no memory for the topic, which may be at any time
OpenRow Topic_unread given from answered effect to =
    (p : Publish) × (given.input ≡ Whole (packet.Publish p)) × IsTaken p from.state × (p.topic ≡ Err topic_fault.NoMemory)
    × (effect ≡ Replies (acknowledged_by p.qos p.id QuotaExceeded)) × IsUnchanged from to
-- the store is full, or memory was refused
OpenRow Not_stored given from answered effect to =
    (p : Publish) × (topic : List ℕ) × (operation : Operation) × (given.input ≡ Whole (packet.Publish p))
    × IsHanded p topic operation given.now from to
    × (effect ≡ Replies (acknowledged_by p.qos p.id QuotaExceeded)) × (to.state ≡ from.state)
-- the store gave no receipt
OpenRow Uncertain given from answered effect to =
    (p : Publish) × (topic : List ℕ) × (operation : Operation) × (given.input ≡ Whole (packet.Publish p))
    × IsHanded p topic operation given.now from to
    × (effect ≡ Closes QuotaExceeded) × (to.state ≡ from.state)
-- the store takes no more, or answered for another change
OpenRow Gate_closed given from answered effect to =
    (p : Publish) × (topic : List ℕ) × (operation : Operation) × (given.input ≡ Whole (packet.Publish p))
    × IsHanded p topic operation given.now from to
    × (effect ≡ Closes ImplementationSpecificError) × (to.state ≡ from.state)
-- 3.6, 4.3.3
OpenRow Released given from answered effect to =
    (a : Acknowledgement) × (given.input ≡ Whole (packet.Pubrel a))
    × (effect ≡ Replies (Some (reply.Pubcomp a.id (reason_value (released_reason a.id from.state.inbound)))))
    × (to.mark ≡ from.mark) × (to.state ≡ record from.state { inbound = set.remove from.state.inbound a.id })
-- 4.3: an acknowledgement that the PUBLISH with this identifier does not await
OpenRow Wrong_acknowledgement given from answered effect to =
    (p : Packet) × (ack : window.Acknowledgement) × (id : ℕ) × (given.input ≡ Whole p) × (acknowledgement_of p ≡ Some (ack, id))
    × (window.answer_to ack (finite.get from.state.window.kinds id) ≡ Err WrongKind)
    × (effect ≡ Closes ProtocolError) × IsUnchanged from to
OpenRow Acknowledged given from answered effect to =
    (p : Packet) × (ack : window.Acknowledgement) × (id : ℕ) × (answer : Ack) × (given.input ≡ Whole p)
    × (acknowledgement_of p ≡ Some (ack, id))
    × window.IsAcknowledged ack id from.state.window (Ok answer) to.state.window
    × (effect ≡ Replies (released_by ack id answer)) × (to.mark ≡ from.mark) × (to.state ≡ record from.state { window = to.state.window })
-- 3.8.3.1
OpenRow Shared_no_local given from answered effect to =
    (s : Subscribe) × (given.input ≡ Whole (packet.Subscribe s)) × (list_any is_shared_local s.filters ≡ true)
    × (effect ≡ Closes ProtocolError) × IsUnchanged from to
-- no memory for the codes, which may be at any time
OpenRow Not_subscribed given from answered effect to =
    (s : Subscribe) × (given.input ≡ Whole (packet.Subscribe s)) × (list_any is_shared_local s.filters ≡ false)
    × (effect ≡ Closes QuotaExceeded) × IsUnchanged from to
-- 3.8.4
OpenRow Subscribed given from answered effect to =
    (s : Subscribe) × (codes : List ℕ) × (given.input ≡ Whole (packet.Subscribe s)) × (list_any is_shared_local s.filters ≡ false)
    × Grants given.now s.filters s.subscription from codes answered to
    × (effect ≡ Replies (Some (reply.Suback (record { id = s.id; codes = codes })))) × (to.mark ≡ from.mark)
-- no memory for the codes, which may be at any time
OpenRow Not_unsubscribed given from answered effect to =
    (u : Unsubscribe) × (given.input ≡ Whole (packet.Unsubscribe u)) × (effect ≡ Closes QuotaExceeded) × IsUnchanged from to
-- 3.10.4
OpenRow Unsubscribed given from answered effect to =
    (u : Unsubscribe) × (given.input ≡ Whole (packet.Unsubscribe u))
    × (effect ≡ Replies (Some (reply.Unsuback (record { id = u.id; codes = removal_codes u.filters from.state.subscriptions }))))
    × (to.mark ≡ from.mark) × (to.state ≡ record from.state { subscriptions = without_all u.filters from.state.subscriptions })
-- 3.12
OpenRow Pinged given from answered effect to =
    (given.input ≡ Whole packet.Pingreq) × (effect ≡ Replies (Some reply.Pingresp)) × IsUnchanged from to
-- 3.14
OpenRow Disconnected given from answered effect to =
    (code : ℕ) × (given.input ≡ Whole (packet.Disconnect code)) × (effect ≡ Leaves) × IsUnchanged from to

-- no filter is answered in a row but that of an accepted SUBSCRIBE
abbrev pub AnsweredInOpen : OpenCase → List (List Entry) → Type 0
AnsweredInOpen Subscribed answered = Unit {0}
AnsweredInOpen case answered = answered ≡ []

-- one of the rows
abbrev pub LeadsTo : Given → Point Open → List (List Entry) → Effect → Point Open → Type 0
LeadsTo given from answered effect to = (case : OpenCase) × AnsweredInOpen case answered × OpenRow case given from answered effect to

-- without a call of the gate: at any moment, list and mark, and the last two stay
abbrev pub LeadsWithoutGate : Input → Open → Effect → Open → Type 0
LeadsWithoutGate input old effect new = (now : ℕ) (mark : Mark) (list : List Entry)
    → LeadsTo (given_at input now) (point_at old list mark) [] effect (point_at new list mark)

-- ---- any session

-- 3.1.2.11.4: what is sent of it to a client that takes packets of at most this length
abbrev pub due_for : ℕ → Effect → Option Reply
due_for maximum (Replies None) = None
due_for maximum (Replies (Some r)) = within maximum r
due_for maximum (Closes code) = within maximum (reply.Disconnect (reason_value code))
due_for maximum Leaves = None

abbrev pub state_after : Effect → State → Open → State
state_after (Replies r) old o = opened old o
state_after (Closes code) old o = ended old (ByServer (reason_value code))
state_after Leaves old o = ended old ByClient

-- what is neither a CONNECT nor a fault of the version
abbrev pub IsNeitherConnectNorVersion : Input → Type 0
IsNeitherConnectNorVersion (Whole (packet.Connect c)) = ⊥
IsNeitherConnectNorVersion (Whole p) = Unit {0}
IsNeitherConnectNorVersion (Broken Version) = ⊥
IsNeitherConnectNorVersion (Broken fault) = Unit {0}

pub data Case : Type 0 where
  -- before an accepted CONNECT
  With_method : Case
  With_will : Case
  Connect_refused : Case
  Accepted : Case
  Connack_too_long : Case
  Other_version : Case
  Unexpected : Case
  -- after it
  In_session : Case
  -- after the end
  Over : Case

-- 3.2: a CONNACK that refuses, and the end. It is not sent if it is longer than the client takes
pub record IsRefused (code : ReasonCode) (c : Connect) (from : Point State) (due : Option Reply) (to : Point State) : Type 0 where
  pub none_used : to.mark ≡ from.mark
  pub reply : due ≡ within (packet_maximum c.packet_maximum) (reply.ConnackRefused (reason_value code))
  pub end : to.state ≡ ended from.state (ByServer (reason_value code))

-- what a row does with what is given, from the point before to the point after, with the reply that is then due
abbrev pub SessionRow : Case → Given → Point State → List (List Entry) → Option Reply → Point State → Type 0
-- 4.12: enhanced authentication is not served
SessionRow With_method given from answered due to =
    (c : Connect) × (given.input ≡ Whole (packet.Connect c)) × (from.state.phase ≡ phase.Before) × (is_some c.method ≡ true)
    × IsRefused BadAuthenticationMethod c from due to
-- 3.1.2.5: a will is not served
SessionRow With_will given from answered due to =
    (c : Connect) × (given.input ≡ Whole (packet.Connect c)) × (from.state.phase ≡ phase.Before) × (is_some c.method ≡ false)
    × (c.will ≡ true) × IsRefused ImplementationSpecificError c from due to
-- no memory, which may be at any time
SessionRow Connect_refused given from answered due to =
    (c : Connect) × (given.input ≡ Whole (packet.Connect c)) × (from.state.phase ≡ phase.Before) × (is_some c.method ≡ false)
    × (c.will ≡ false) × IsRefused QuotaExceeded c from due to
SessionRow Accepted given from answered due to =
    (c : Connect) × (given.input ≡ Whole (packet.Connect c)) × (from.state.phase ≡ phase.Before) × (is_some c.method ≡ false)
    × (c.will ≡ false)
    × (length (reply_bytes (connack c from.state)) ≤ packet_maximum c.packet_maximum) × (to.mark ≡ from.mark)
    × (due ≡ Some (connack c from.state)) × (to.state ≡ opened from.state (open_for c))
SessionRow Connack_too_long given from answered due to =
    (c : Connect) × (given.input ≡ Whole (packet.Connect c)) × (from.state.phase ≡ phase.Before) × (is_some c.method ≡ false)
    × (c.will ≡ false)
    × (packet_maximum c.packet_maximum < length (reply_bytes (connack c from.state))) × (to.mark ≡ from.mark) × (due ≡ None)
    × (to.state ≡ ended from.state (ByServer (reason_value Success)))
-- 3.1.2.2
SessionRow Other_version given from answered due to =
    (given.input ≡ Broken Version) × (from.state.phase ≡ phase.Before) × (to.mark ≡ from.mark)
    × (due ≡ Some (reply.ConnackRefused (reason_value UnsupportedProtocolVersion)))
    × (to.state ≡ ended from.state (ByServer (reason_value UnsupportedProtocolVersion)))
-- 3.1: the first packet is a CONNECT
SessionRow Unexpected given from answered due to =
    IsNeitherConnectNorVersion given.input × (from.state.phase ≡ phase.Before) × (to.mark ≡ from.mark) × (due ≡ None)
    × (to.state ≡ ended from.state Dropped)
SessionRow In_session given from answered due to =
    (o : Open) × (left : Open) × (effect : Effect) × (from.state.phase ≡ phase.Open o)
    × LeadsTo given (with_state from o) answered effect (with_state to left)
    × (due ≡ due_for o.window.packet_maximum effect) × (to.state ≡ state_after effect from.state left)
SessionRow Over given from answered due to =
    (closing : Closing) × (from.state.phase ≡ phase.Ended closing) × (to.mark ≡ from.mark) × (due ≡ None) × (to.state ≡ from.state)

-- no filter is answered outside an open session
abbrev pub AnsweredIn : Case → List (List Entry) → Type 0
AnsweredIn In_session answered = Unit {0}
AnsweredIn case answered = answered ≡ []

-- a row, with the lists by which filters are answered
abbrev pub Row : Case → Given → Point State → List (List Entry) → Option Reply → Point State → Type 0
Row case given from answered due to = AnsweredIn case answered × SessionRow case given from answered due to

-- one of the rows
abbrev pub Answers : Given → Point State → List (List Entry) → Option Reply → Point State → Type 0
Answers given from answered due to = (case : Case) × Row case given from answered due to

-- without a call of the gate: at any moment, list and mark, and the last two stay
abbrev pub AnswersWithoutGate : Input → State → Option Reply → State → Type 0
AnswersWithoutGate input old due new = (now : ℕ) (mark : Mark) (list : List Entry)
    → Answers (given_at input now) (point_at old list mark) [] due (point_at new list mark)
