-- The lists along a run of a session, and the retained publications that it acknowledged: sections 3.3.1.3, 3.8.4 and 4.3 of
-- OASIS MQTT Version 5.0.
use Rattle.std.specs.Prelude.{◌≡◌, ◌≢◌, ℕ, ◌<◌, ◌≤◌, true, false, Contains, List, [], ◌∷◌, ◌++◌, Some, Ok}
use Rattle.std.specs.List.{AllByRecursion}
use Rattle.rs_packet.specs.declared.packet.Packet.TheVariants as packet
use Rattle.rs_packet.specs.declared.packet.Publish.{Publish}
use Rattle.rs_packet.specs.declared.reply.Reply.{Reply}
use Rattle.rs_message.specs.declared.entry.Entry.{Entry}
use Rattle.rs_message.specs.declared.entry.Operation.{Operation}
use Rattle.rs_store.specs.History.{SerialsRise}
use Rattle.rs_session.specs.Gate.{Mark, Extends}
use Rattle.rs_session.specs.Points.{Point}
use Rattle.rs_session.specs.Run.{Exchange, AreOfGate}
use Rattle.rs_session.specs.State.{State}
use Rattle.rs_session.specs.Table.{acknowledged_by, change, unreleased_id, is_unreleased}
use Rattle.rs_session.specs.declared.open.Open.{Open}
use Rattle.rs_session.specs.declared.phase.Input.TheVariants.{Whole}
use Rattle.rs_session.specs.declared.reason.ReasonCode.TheVariants.{Success}

-- ---- the lists

-- in order, those by which the filters of each exchange were answered, and then the one that it leaves
abbrev pub lists_of : List Exchange → List (List Entry)
lists_of [] = []
lists_of (exchange ∷ exchanges) = exchange.answered ++ exchange.to.seen ∷ lists_of exchanges

-- every list is a prefix of all lists after it
abbrev pub AreGrowing : List (List Entry) → Type 0
AreGrowing [] = Unit {0}
AreGrowing (list ∷ lists) = AllByRecursion (λ later. Extends later list) lists × AreGrowing lists

-- the serials of each place rise in each list, as they do if the gate stands only for legal lists
abbrev pub SerialsRiseIn : List Exchange → Type 0
SerialsRiseIn exchanges = AreOfGate (λ mark list. SerialsRise list) exchanges

-- ---- the publications

-- the point of the run after these exchanges
abbrev pub point_after : Point State → List Exchange → Point State
point_after from [] = from
point_after from (exchange ∷ exchanges) = point_after exchange.to exchanges

-- the place stays, and no serial is given up
pub record MarkGrows (old new : Mark) : Type 0 where
  pub place : new.place ≡ old.place
  pub serial : old.serial ≤ new.serial

-- A retained publication that the client was told is stored: a PUBLISH with RETAIN 1 that is not one sent again, and a PUBACK
-- or a PUBREC of 0x00 among the replies.
pub record IsToldStored (o : Open) (exchange : Exchange) (p : Publish) (answer : Reply) : Type 0 where
  pub input : exchange.given.input ≡ Whole (packet.Publish p)
  pub retained : p.retain ≡ true
  pub new : is_unreleased (unreleased_id p.qos p.id) o.inbound ≡ false
  pub code : acknowledged_by p.qos p.id Success ≡ Some answer
  pub replied : Contains exchange.replies answer

-- the entry stands in the list, and no other there has its origin
pub record StandsOnce (e : Entry) (list : List Entry) : Type 0 where
  pub front : List Entry
  pub rest : List Entry
  pub whole : list ≡ front ++ e ∷ rest
  pub before : AllByRecursion (λ other. other.origin ≢ e.origin) front
  pub after : AllByRecursion (λ other. other.origin ≢ e.origin) rest

-- what it does to its topic stands once in each of these lists, under the serial that the exchange used
pub record IsStoredIn (before : Mark) (exchange : Exchange) (p : Publish) (lists : List (List Entry)) : Type 0 where
  pub topic : List ℕ
  pub operation : Operation
  pub is_topic : p.topic ≡ Ok topic
  pub changes : change p topic exchange.given.now ≡ Some operation
  pub used : before.serial < exchange.to.mark.serial
  pub stored : AllByRecursion (StandsOnce
      (record { origin = record { place = exchange.to.mark.place; serial = exchange.to.mark.serial }; operation = operation })) lists
