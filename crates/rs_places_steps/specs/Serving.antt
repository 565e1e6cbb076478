-- One connection of a place over a store that other places use too: sections 3.3.1.3, 3.8.4 and 4.3 of OASIS MQTT Version 5.0.
use Rattle.std.specs.Prelude.{◌≡◌, ◌≤◌, ℕ, List, [], ◌∷◌, ◌++◌, length, Result}
use Rattle.std.specs.Io.KnownBytes.{Consumes, IsAtEnd}
use Rattle.rs_packet.specs.declared.packet.Connect.{Connect}
use Rattle.rs_packet.specs.declared.packet.Publish.{Publish}
use Rattle.rs_packet.specs.declared.reply.Reply.{Reply}
use Rattle.rs_message.specs.declared.entry.Entry.{Entry}
use Rattle.rs_message.specs.declared.entry.Operation.{Operation}
use Rattle.rs_store.specs.History.{IsLegal}
use Rattle.rs_intake_queue.specs.declared.job.TheConstants.{MAX_CHANGES}
use Rattle.rs_session.specs.Stored.{AreGrowing, IsStoredIn, IsToldStored, MarkGrows, lists_of, point_after}
use Rattle.rs_session.specs.Replay.{IsReplaying, IsSentInOrder, Opens}
use Rattle.rs_session.specs.Gate.{Mark}
use Rattle.rs_session.specs.Points.{Given, Point, point_at}
use Rattle.rs_session.specs.Run.{AreOfGate, Run, Exchange}
use Rattle.rs_session.specs.Sent.{SendsPublications}
use Rattle.rs_session.specs.State.{State}
use Rattle.rs_session.specs.declared.open.Open.{Open}
use Rattle.rs_session.specs.declared.phase.Phase.TheVariants as phase
use Rattle.rs_server.specs.Conversation.{AreLeft, Ends, InputsOf, Transfer, WritesReplies, inputs_of, moments_of, planned_inputs, planned_moments}
use Rattle.rs_server.specs.declared.connection.Served.{Served}
use Rattle.rs_server.specs.declared.writing.ServeFault.{ServeFault}
use Rattle.rs_places_steps.specs.Shared.{HandsOn, SharedValue, operations_of}

-- From this point, with these changes expected first, a session was run over the bytes that were read, up to what the gate knows then.
pub record IsServedAt (limit : ℕ) (from : Point State) (expected : List Operation) (transfer : Transfer) (result : Result Served ServeFault)
    (gate : SharedValue) : Type 0 where
  pub exchanges : List Exchange
  pub state : State
  pub mark : Mark
  pub bytes : List ℕ
  pub buffered : List ℕ
  -- what was whole behind the last packet that was handled, and decoded: at most as many inputs as one job has changes. And the bytes
  -- behind that
  pub planned : List Given
  pub few : length planned ≤ MAX_CHANGES
  pub left : List ℕ
  -- the exchanges are those of a session, and what was written are their replies
  pub run : Run from exchanges (point_at state gate.known mark)
  pub read : Consumes transfer.unread transfer.rest bytes
  pub inputs : InputsOf (inputs_of exchanges) bytes buffered
  pub whole : InputsOf (planned_inputs planned) buffered left
  -- the times that were told are those of the exchanges, and then those of what was decoded and not handled
  pub moments : transfer.told (moments_of exchanges ++ planned_moments planned)
  pub replies : WritesReplies result transfer.written transfer.more exchanges
  pub ends : Ends result state buffered (IsAtEnd transfer.rest)
  -- each list by which a filter was answered, and each that an exchange left, is legal
  pub legal : AreOfGate (λ mark list. IsLegal limit list) exchanges
  pub last_legal : IsLegal limit gate.known
  -- of each of these lists every one before it is a prefix, from what was known first to what is known last
  pub lists : AreGrowing (from.seen ∷ (lists_of exchanges ++ gate.known ∷ []))
  -- a retained publication that the client was told is stored stands once in every later list
  pub stored : (before : List Exchange) (exchange : Exchange) (after : List Exchange) (o : Open) (p : Publish) (answer : Reply)
      → exchanges ≡ before ++ exchange ∷ after
      → (point_after from before).state.phase ≡ phase.Open o → IsToldStored o exchange p answer
      → IsStoredIn (point_after from before).mark exchange p (exchange.to.seen ∷ (lists_of after ++ gate.known ∷ []))
  -- Between any two points of the run the place stays, and the serial does not fall. A publication that was told stored used a new
  -- one, so two of them are two entries.
  pub marks : (before between after : List Exchange) → exchanges ≡ before ++ (between ++ after)
      → MarkGrows (point_after from before).mark (point_after from (before ++ between)).mark
  -- what the exchanges sent are the client's retained publications, in their order, each at most once, and each that the client was told
  -- is stored
  pub publications : SendsPublications from exchanges (point_at state gate.known mark)
  -- Behind that the gate's line sent these, which the gate handed on.
  pub tail : List Entry
  pub handed_on : HandsOn mark tail gate.mark
  pub none_pending : gate.pending ≡ []
  -- They are changes of publications that the bytes hold behind the last packet that was handled, or of that one too, if it sent
  -- nothing and ended the session.
  pub tail_is : expected ≡ [] → AreLeft from exchanges planned (operations_of tail)
  -- what the filters were answered is sent in order, each message once
  pub sent : (c : Connect) → Opens c exchanges → (made : IsReplaying c exchanges) × IsSentInOrder c exchanges made.made
