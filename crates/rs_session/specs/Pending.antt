-- The changes that a gate is told to expect: section 3.3.1.3 of OASIS MQTT Version 5.0.
use Rattle.std.specs.Prelude.{◌≡◌, ℕ, ◌⊎◌, Bool, true, false, ◌&&◌, not, is_some, List, [], ◌∷◌, Some, Result, Ok, Err}
use Rattle.rs_topic.specs.declared.text.TopicFault.{TopicFault}
use Rattle.rs_packet.specs.declared.packet.Packet.TheVariants as packet
use Rattle.rs_packet.specs.declared.packet.Publish.{Publish}
use Rattle.rs_message.specs.declared.qos.Qos.{Qos}
use Rattle.rs_message.specs.declared.qos.Qos.TheVariants.{AtMostOnce, AtLeastOnce, ExactlyOnce}
use Rattle.rs_message.specs.declared.entry.Operation.{Operation}
use Rattle.rs_session.specs.Points.{Given}
use Rattle.rs_session.specs.Table.{change}
use Rattle.rs_session.specs.declared.phase.Input.TheVariants.{Whole}

-- QoS 0 or 1
abbrev pub is_low : Qos → Bool
is_low AtMostOnce = true
is_low AtLeastOnce = true
is_low ExactlyOnce = false

abbrev pub is_topic : Result (List ℕ) TopicFault → Bool
is_topic (Ok topic) = true
is_topic (Err fault) = false

-- a publication that may be announced needs nothing of the session but that it goes on: RETAIN 1, QoS 0 or 1, no alias, and a topic
abbrev pub may_be_announced : Publish → Bool
may_be_announced p = p.retain && (is_low p.qos && (not (is_some p.alias) && is_topic p.topic))

-- such a publication, with its change at its time
abbrev pub IsChange : Given → Operation → Type 0
IsChange given operation =
    (p : Publish) × (topic : List ℕ) × (given.input ≡ Whole (packet.Publish p)) × (may_be_announced p ≡ true) × (p.topic ≡ Ok topic)
    × (change p topic given.now ≡ Some operation)

-- its change may be announced
abbrev pub HasChange : Given → Type 0
HasChange given = (operation : Operation) × IsChange given operation

-- the changes are those of the first of these, one for each
abbrev pub AreChanges : List Given → List Operation → Type 0
AreChanges givens [] = Unit {0}
AreChanges [] (operation ∷ operations) = ⊥
AreChanges (given ∷ givens) (operation ∷ operations) = IsChange given operation × AreChanges givens operations

-- What is left of the changes that were expected once this was handled, if the first is its change: the rest; or none; or all, and
-- then the last holds.
abbrev pub LeavesPending : Given → List Operation → List Operation → Type 0 → Type 0
LeavesPending given [] new Unused = new ≡ []
LeavesPending given (operation ∷ operations) new Unused =
    IsChange given operation → (new ≡ operations) ⊎ ((new ≡ []) ⊎ ((new ≡ operation ∷ operations) × Unused))
