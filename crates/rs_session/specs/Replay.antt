-- What a run of a session calls of its window, and what it replies by that: sections 3.3.1.3, 3.8.4, 4.3 and 4.9 of OASIS
-- MQTT Version 5.0.
use Rattle.std.specs.Prelude.{◌≡◌, ℕ, ◌≤◌, ◌⊎◌, ◌&&◌, Bool, MatchBool, min, nat_lt, if◌then◌else◌, List, [], ◌∷◌, ◌++◌, map, Option, Some, None, Ok, Err}
use Rattle.std.specs.FinMap as finite
use Rattle.rs_packet.specs.declared.packet.Connect.{Connect}
use Rattle.rs_packet.specs.declared.packet.Packet.TheVariants as packet
use Rattle.rs_packet.specs.declared.reply.PublishReply.{PublishReply}
use Rattle.rs_packet.specs.declared.reply.Reply.{Reply}
use Rattle.rs_packet.specs.declared.reply.Reply.TheVariants as reply
use Rattle.rs_packet.specs.Values.{Asked, Filter}
use Rattle.rs_message.specs.Sizes.{level}
use Rattle.rs_message.specs.declared.entry.Entry.{Entry}
use Rattle.rs_message.specs.declared.found.Found.{Found}
use Rattle.rs_store.specs.History.{IsAnswer}
use Rattle.rs_window.specs.Calls as window
use Rattle.rs_window.specs.Calls.{Call, Queue, Next, Acknowledge}
use Rattle.rs_window.specs.Identifiers.{Kinds}
use Rattle.rs_window.specs.Packets.{reply_of, publish_reply_of}
use Rattle.rs_window.specs.Replay as calls
use Rattle.rs_window.specs.State as window_state
use Rattle.rs_window.specs.Values.{OutgoingValue}
use Rattle.rs_window.specs.Waiting.{Carries, IsDropped}
use Rattle.rs_window.specs.declared.waiting.Waiting.{Waiting}
use Rattle.rs_window.specs.declared.window.TheConstants.{MAX_QUOTA}
use Rattle.rs_window.specs.declared.fault.Ack.{Ack}
use Rattle.rs_window.specs.declared.fault.WindowFault.TheVariants.{WrongKind}
use Rattle.rs_session.specs.Subscriptions.{Subscriptions, none, is_subscribed, replays}
use Rattle.rs_session.specs.declared.subscriptions.Subscription.{Subscription}
use Rattle.rs_session.specs.Table.{receive_maximum, packet_maximum, acknowledgement_of, due_for, subscription_for}
use Rattle.rs_session.specs.Run.{Exchange}
use Rattle.rs_session.specs.declared.open.Effect.TheVariants.{Replies}
use Rattle.rs_session.specs.declared.phase.Input.{Input}
use Rattle.rs_session.specs.declared.phase.Input.TheVariants.{Whole, Broken}
use Rattle.rs_session.specs.declared.phase.Phase.{Phase}
use Rattle.rs_session.specs.declared.phase.Phase.TheVariants as phase

-- ---- the calls of a SUBSCRIBE

-- 3.9.3: a code of a SUBACK below 0x80 is the granted QoS
abbrev pub is_granted : ℕ → Bool
is_granted code = nat_lt code 0x80

-- the subscriptions once a filter was answered by this code
abbrev pub subscribed_by : Filter → Subscription → ℕ → Subscriptions → Subscriptions
subscribed_by (Err fault) subscription code there = there
subscribed_by (Ok filter) subscription code there = if is_granted code then finite.insert there filter subscription else there

-- all that the list answers is queued, at the granted QoS and with the Subscription Identifier
abbrev pub IsQueuedAt : List ℕ → Subscription → ℕ → List Entry → ℕ → List Call → Type 0
IsQueuedAt filter subscription now list code own =
    (found : List Found) × IsAnswer list filter now found × (code ≡ level subscription.options.qos)
    × (own ≡ Queue found subscription.options.qos subscription.identifier (Ok tt) ∷ [])

-- a filter that is granted and that its Retain Handling lets replay; another queues nothing
abbrev pub IsQueuedFor : Filter → Subscription → ℕ → List Entry → ℕ → Subscriptions → List Call → Type 0
IsQueuedFor (Err fault) subscription now list code there own = own ≡ []
IsQueuedFor (Ok filter) subscription now list code there own =
    MatchBool (is_granted code && replays subscription.options.retain_handling (is_subscribed filter there))
    (IsQueuedAt filter subscription now list code own) (own ≡ [])

-- one filter after the other, each with the next code, by the next list
abbrev pub AreQueued : ℕ → List Asked → Option ℕ → List ℕ → List (List Entry) → Subscriptions → List Call → Type 0
AreQueued now [] identifier codes answered there made = (codes ≡ []) × (answered ≡ []) × (made ≡ [])
AreQueued now (asked ∷ more) identifier codes answered there made =
    (code : ℕ) × (rest : List ℕ) × (list : List Entry) × (later : List (List Entry)) × (own : List Call) × (others : List Call)
    × (codes ≡ code ∷ rest) × (answered ≡ list ∷ later)
    × (made ≡ own ++ others) × IsQueuedFor asked.0 (subscription_for asked identifier) now list code there own
    × AreQueued now more identifier rest later (subscribed_by asked.0 (subscription_for asked identifier) code there) others

-- ---- the calls of an exchange

abbrev pub IsAcknowledged : Option (window.Acknowledgement × ℕ) → List Call → Type 0
IsAcknowledged None own = own ≡ []
IsAcknowledged (Some (ack, id)) own = (answer : Ack) × (own ≡ Acknowledge ack id (Ok answer) ∷ [])

-- The calls of an input after which the session goes on, and the answer to it: a SUBSCRIBE queues for its filters, by the
-- codes of its SUBACK, an acknowledgement is one call, and no other input calls anything.
abbrev pub AreCalledBy : Input → ℕ → List (List Entry) → Subscriptions → Option Reply → List Call → Type 0
AreCalledBy (Whole (packet.Subscribe s)) now answered there answer own =
    (codes : List ℕ) × (answer ≡ Some (reply.Suback (record { id = s.id; codes = codes })))
    × AreQueued now s.filters s.subscription codes answered there own
AreCalledBy (Whole p) now answered there answer own = IsAcknowledged (acknowledgement_of p) own
AreCalledBy (Broken fault) now answered there answer own = own ≡ []

abbrev pub acknowledgement_in : Input → Option (window.Acknowledgement × ℕ)
acknowledgement_in (Whole p) = acknowledgement_of p
acknowledgement_in (Broken fault) = None

-- 4.3: an acknowledgement that ends the session is not the one that its identifier waits for
abbrev pub IsRefused : Option (window.Acknowledgement × ℕ) → List Call → Type 0
IsRefused None own = own ≡ []
IsRefused (Some (ack, id)) own = own ≡ Acknowledge ack id (Err WrongKind) ∷ []

-- the window gives these, and then none
abbrev pub giving : ℕ → List OutgoingValue → List Call
giving now [] = Next now None ∷ []
giving now (p ∷ ps) = Next now (Some p) ∷ giving now ps

abbrev pub listed : Option Reply → List Reply
listed None = []
listed (Some r) = r ∷ []

-- the PUBLISH packets among the replies
abbrev pub publish_replies : List Reply → List PublishReply
publish_replies [] = []
publish_replies (reply.Publish p ∷ rs) = p ∷ publish_replies rs
publish_replies (r ∷ rs) = publish_replies rs

abbrev pub IsNoPublish : Option Reply → Type 0
IsNoPublish (Some (reply.Publish p)) = ⊥
IsNoPublish answer = Unit {0}

-- The replies are the answer to the input, if the client takes so long a packet, and then each PUBLISH that the window gave.
pub record IsServed (there : Subscriptions) (packet_maximum : ℕ) (exchange : Exchange) (made : List Call) : Type 0 where
  pub answer : Option Reply
  pub own : List Call
  pub given : List OutgoingValue
  pub called : AreCalledBy exchange.given.input exchange.given.now exchange.answered there answer own
  pub no_publish : IsNoPublish answer
  pub whole : made ≡ own ++ giving exchange.given.now given
  pub replies : exchange.replies ≡ listed (due_for packet_maximum (Replies answer)) ++ map reply_of given

-- the session ends, and no more is given
pub record IsLast (exchange : Exchange) (made : List Call) : Type 0 where
  pub refused : IsRefused (acknowledgement_in exchange.given.input) made
  pub none_given : publish_replies exchange.replies ≡ []

abbrev pub AreMade : Subscriptions → Exchange → Phase → List Call → Type 0
AreMade there exchange phase.Before made = ⊥
AreMade there exchange (phase.Open o) made = IsServed there o.window.packet_maximum exchange made
AreMade there exchange (phase.Ended closing) made = IsLast exchange made

-- ---- the calls of a run

abbrev pub subscriptions_of : Phase → Subscriptions
subscriptions_of phase.Before = none
subscriptions_of (phase.Open o) = o.subscriptions
subscriptions_of (phase.Ended closing) = none

-- one exchange after the other
abbrev pub AreCalls : Phase → List Exchange → List Call → Type 0
AreCalls from [] made = made ≡ []
AreCalls from (exchange ∷ exchanges) made =
    (own : List Call) × (rest : List Call) × (made ≡ own ++ rest) × AreMade (subscriptions_of from) exchange exchange.to.state.phase own
    × AreCalls exchange.to.state.phase exchanges rest

abbrev pub window_of : window_state.State → Phase → window_state.State
window_of old phase.Before = old
window_of old (phase.Open o) = o.window
window_of old (phase.Ended closing) = old

-- the window of the session after these exchanges, or when it ended
abbrev pub window_after : window_state.State → List Exchange → window_state.State
window_after old [] = old
window_after old (exchange ∷ exchanges) = window_after (window_of old exchange.to.state.phase) exchanges

-- 3.1.2.11.3, 3.1.2.11.4: by the client's Receive Maximum and Maximum Packet Size
abbrev pub window_for : Connect → window_state.State
window_for c = window.fresh (receive_maximum c.receive_maximum) (packet_maximum c.packet_maximum)

abbrev pub IsOpen : Phase → Type 0
IsOpen phase.Before = ⊥
IsOpen (phase.Open o) = Unit {0}
IsOpen (phase.Ended closing) = ⊥

-- the first exchange accepts this CONNECT
abbrev pub Opens : Connect → List Exchange → Type 0
Opens c [] = ⊥
Opens c (exchange ∷ exchanges) = (exchange.given.input ≡ Whole (packet.Connect c)) × IsOpen exchange.to.state.phase

-- the calls of a run of the window, from a new one
pub record IsReplaying (c : Connect) (exchanges : List Exchange) : Type 0 where
  pub made : List Call
  pub run : calls.Run (window_for c) made (window_after (window_for c) exchanges)
  pub by_exchanges : AreCalls phase.Before exchanges made

-- ---- what was queued, and what became of it

-- These messages leave the queue at a given time, in order. Each is sent as its packet, or it is dropped, since it has expired or
-- its packet is longer than the client takes.
abbrev pub AreSentOrDropped : ℕ → ℕ → List Waiting → List PublishReply → Type 0
AreSentOrDropped packet_maximum now [] sent = sent ≡ []
AreSentOrDropped packet_maximum now (w ∷ ws) sent =
    (IsDropped packet_maximum now w × AreSentOrDropped packet_maximum now ws sent)
    ⊎ ((p : OutgoingValue) × (more : List PublishReply) × (sent ≡ publish_reply_of p ∷ more) × Carries packet_maximum now w p
    × AreSentOrDropped packet_maximum now ws more)

-- exchange by exchange, these leave the queue, and the PUBLISH packets among the replies are what is sent of them
abbrev pub AreSent : ℕ → List Exchange → List Waiting → Type 0
AreSent packet_maximum [] front = front ≡ []
AreSent packet_maximum (exchange ∷ exchanges) front =
    (gone : List Waiting) × (rest : List Waiting) × (front ≡ gone ++ rest)
    × AreSentOrDropped packet_maximum exchange.given.now gone (publish_replies exchange.replies) × AreSent packet_maximum exchanges rest

-- these identifiers wait for an acknowledgement after the calls, and they are not more than the client takes
pub record IsWithinQuota (c : Connect) (before : List Call) : Type 0 where
  pub kinds : Kinds
  pub unacknowledged : calls.AreUnacknowledged before kinds
  pub few : finite.len kinds ≤ min (receive_maximum c.receive_maximum) MAX_QUOTA

-- A prefix of what these calls queued has left the queue, and the rest waits. The PUBLISH replies of the run are this prefix, in
-- order, each message once, less what was dropped. The quota is the lesser of the client's Receive Maximum and `MAX_QUOTA`:
-- after each of the calls no more identifiers wait for an acknowledgement, and at the end just those of the window do.
pub record IsSentInOrder (c : Connect) (exchanges : List Exchange) (made : List Call) : Type 0 where
  pub front : List Waiting
  pub whole : calls.queued made ≡ front ++ (window_after (window_for c) exchanges).waiting
  pub sent : AreSent (packet_maximum c.packet_maximum) exchanges front
  pub quota : (window_after (window_for c) exchanges).quota ≡ min (receive_maximum c.receive_maximum) MAX_QUOTA
  pub within : (before after : List Call) → made ≡ before ++ after → IsWithinQuota c before
  pub unacknowledged : calls.AreUnacknowledged made (window_after (window_for c) exchanges).kinds
