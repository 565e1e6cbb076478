-- What the exchanges of a session send to the store: section 3.3.1.3 of OASIS MQTT Version 5.0.
use Rattle.std.specs.Prelude.{◌≡◌, ℕ, false, List, [], ◌∷◌, ◌++◌, Some, Ok}
use Rattle.rs_packet.specs.declared.packet.Packet.TheVariants as packet
use Rattle.rs_packet.specs.declared.packet.Publish.{Publish}
use Rattle.rs_packet.specs.declared.reply.Reply.{Reply}
use Rattle.rs_message.specs.declared.entry.Entry.{Entry}
use Rattle.rs_session.specs.Gate.{Sends, last_origin}
use Rattle.rs_session.specs.Stored.{IsToldStored}
use Rattle.rs_session.specs.Points.{Point}
use Rattle.rs_session.specs.Run.{Exchange}
use Rattle.rs_session.specs.State.{State}
use Rattle.rs_session.specs.Table.{change, unreleased_id, is_unreleased}
use Rattle.rs_session.specs.declared.open.Open.{Open}
use Rattle.rs_session.specs.declared.phase.Input.TheVariants.{Whole}
use Rattle.rs_session.specs.declared.phase.Phase.TheVariants as phase

-- The exchange's input is a retained publication: a PUBLISH with RETAIN 1 that is not one sent again. The entry is what it does to its
-- topic, under the mark's place and serial after the exchange.
pub record IsPublication (before : Point State) (exchange : Exchange) (e : Entry) : Type 0 where
  pub session : Open
  pub publish : Publish
  pub topic : List ℕ
  pub is_open : before.state.phase ≡ phase.Open session
  pub input : exchange.given.input ≡ Whole (packet.Publish publish)
  pub new : is_unreleased (unreleased_id publish.qos publish.id) session.inbound ≡ false
  pub is_topic : publish.topic ≡ Ok topic
  pub changes : change publish topic exchange.given.now ≡ Some e.operation
  pub origin : e.origin ≡ last_origin exchange.to.mark

-- what an exchange sends: its publication, once, or nothing, if the client was not told that its publication is stored
abbrev pub IsSentBy : Point State → Exchange → List Entry → Type 0
IsSentBy before exchange [] = (o : Open) (p : Publish) (answer : Reply) → before.state.phase ≡ phase.Open o
    → IsToldStored o exchange p answer → ⊥
IsSentBy before exchange (e ∷ []) = IsPublication before exchange e
IsSentBy before exchange (e ∷ d ∷ more) = ⊥

-- what the exchanges send, one after the other
abbrev pub AreSentBy : Point State → List Exchange → List Entry → Type 0
AreSentBy from [] entries = entries ≡ []
AreSentBy from (exchange ∷ exchanges) entries =
    (first : List Entry) × (rest : List Entry) × (entries ≡ first ++ rest) × IsSentBy from exchange first
    × AreSentBy exchange.to exchanges rest

-- From this point to that one the gate sent what the exchanges send, and nothing else.
pub record SendsPublications (from : Point State) (exchanges : List Exchange) (to : Point State) : Type 0 where
  pub entries : List Entry
  pub sent : Sends from.mark.sent entries to.mark.sent
  pub publications : AreSentBy from exchanges entries
