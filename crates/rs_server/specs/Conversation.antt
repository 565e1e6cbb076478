-- One connection, from the bytes that were read to those that were written.
use Rattle.std.specs.Prelude.{◌⊎◌, ◌≡◌, ◌≢◌, ℕ, ◌-◌, ◌<◌, ◌≤◌, Option, Some, None, List, [], ◌∷◌, ◌++◌, length, take, drop, map, Result, Ok, Err, codes}
use Rattle.std.specs.List.{All, flat_map}
use Rattle.std.specs.Io.KnownBytes.{Consumes, Appends, IsAtEnd}
use Rattle.std.specs.Fmt.{decimal}
use Rattle.rs_packet.specs.Grammar.{Encodes}
use Rattle.rs_packet.specs.Prefixes.{IsMore, IsFaulty}
use Rattle.rs_packet.specs.Faults as faults
use Rattle.rs_message.specs.declared.entry.Entry.{Entry}
use Rattle.rs_message.specs.declared.entry.Operation.{Operation}
use Rattle.rs_session.specs.declared.phase.Input.{Input}
use Rattle.rs_session.specs.declared.phase.Input.TheVariants.{Whole, Broken}
use Rattle.rs_session.specs.declared.phase.Closing.{Closing}
use Rattle.rs_session.specs.declared.phase.Closing.TheVariants as closing
use Rattle.rs_session.specs.Pending.{AreChanges, HasChange}
use Rattle.rs_session.specs.Gate.{Mark, StandsAt}
use Rattle.rs_session.specs.Stored.{point_after}
use Rattle.rs_session.specs.State.{State, fresh, closing_of, step_of}
use Rattle.rs_session.specs.declared.phase.Step.TheVariants.{End}
use Rattle.rs_session.specs.Points.{Given, Point, point_at}
use Rattle.rs_session.specs.Run.{Exchange, IsExchange, Run, IsOfGate, AreOfGate}
use Rattle.rs_server.specs.declared.connection.Served.{Served}
use Rattle.rs_server.specs.declared.connection.Served.TheVariants.{ClientClosed, EndOfInput, CutInput, ServerClosed, Dropped}
use Rattle.rs_server.specs.declared.writing.ServeFault.{ServeFault}
use Rattle.rs_server.specs.declared.writing.ServeFault.TheVariants.{Read, Write, NoMemory}
use Rattle.rs_server.specs.Clock.{TellsInOrder}
use Rattle.rs_server.specs.Writing.{all_reply_bytes}

-- ---- what is read

-- These bytes are the inputs, one after the other, and then what is buffered. A fault takes no byte.
abbrev pub InputsOf : List Input → List ℕ → List ℕ → Type 0
InputsOf [] bytes buffered = bytes ≡ buffered
InputsOf (Whole packet ∷ inputs) bytes buffered = (text : List ℕ) × (rest : List ℕ) × (bytes ≡ text ++ rest) × Encodes text packet
    × InputsOf inputs rest buffered
InputsOf (Broken fault ∷ inputs) bytes buffered = IsFaulty bytes fault × InputsOf inputs bytes buffered

-- The inputs are the same as far as both go, up to the first fault. Out of memory may stand in the
-- place of any.
abbrev pub Agree : List Input → List Input → Type 0
Agree [] others = Unit {0}
Agree (input ∷ inputs) [] = Unit {0}
Agree (Whole p ∷ inputs) (Whole q ∷ others) = (p ≡ q) × Agree inputs others
Agree (Whole p ∷ inputs) (Broken fault ∷ others) = fault ≡ faults.NoMemory
Agree (Broken fault ∷ inputs) (Whole q ∷ others) = fault ≡ faults.NoMemory
Agree (Broken fault ∷ inputs) (Broken other ∷ others) = (fault ≡ faults.NoMemory) ⊎ ((other ≡ faults.NoMemory) ⊎ (fault ≡ other))

-- the input that is the first part of what is buffered, and what is buffered without it
abbrev pub TakesInput : List ℕ → Option Input → List ℕ → Type 0
TakesInput old None new = IsMore old × (new ≡ old)
TakesInput old (Some (Whole packet)) new = (n : ℕ) × (n ≤ length old) × Encodes (take n old) packet × (new ≡ drop n old)
TakesInput old (Some (Broken fault)) new = IsFaulty old fault × (new ≡ old)

-- ---- what was decoded and not handled

abbrev pub planned_inputs : List Given → List Input
planned_inputs planned = map (λ given. given.input) planned

abbrev pub planned_moments : List Given → List ℕ
planned_moments planned = map (λ given. given.now) planned

-- nothing more is planned, or one input more: the first of what was buffered, at the time that was told
abbrev pub PlansNext : List Given → List Given → List ℕ → List ℕ → Option (ℕ → ℕ) → Option (ℕ → ℕ) → Type 0
PlansNext planned new_planned buffered new_buffered told new_told =
    ((new_planned ≡ planned) × (new_buffered ≡ buffered) × (new_told ≡ told))
    ⊎ ((given : Given) × (new_planned ≡ planned ++ given ∷ []) × TakesInput buffered (Some given.input) new_buffered
    × TellsInOrder told new_told (given.now ∷ []))

-- what is planned grew by the next inputs of what was buffered, at the times that were told
abbrev pub Plans : List Given → List Given → List ℕ → List ℕ → Option (ℕ → ℕ) → Option (ℕ → ℕ) → Type 0
Plans planned new_planned buffered new_buffered told new_told =
    (more : List Given) × (new_planned ≡ planned ++ more) × InputsOf (planned_inputs more) buffered new_buffered
    × TellsInOrder told new_told (planned_moments more)

-- of all of these but the last the changes may be announced
abbrev pub AllButLastHaveChanges : List Given → Type 0
AllButLastHaveChanges planned = All HasChange (take (length planned - 1) planned)

-- ---- the run

-- the identifier of a client that gives none: the place, and the number of the connection there
abbrev pub assigned_of : ℕ → ℕ → List ℕ
assigned_of place number = codes "rs" ++ (decimal place ++ (codes "-" ++ decimal number))

abbrev pub inputs_of : List Exchange → List Input
inputs_of exchanges = map (λ exchange. exchange.given.input) exchanges

abbrev pub moments_of : List Exchange → List ℕ
moments_of exchanges = map (λ exchange. exchange.given.now) exchanges

abbrev pub replies_of : List Exchange → List ℕ
replies_of exchanges = flat_map (λ exchange. all_reply_bytes exchange.replies) exchanges

-- the first point of a connection
abbrev pub start : List ℕ → List Entry → Mark → Point State
start assigned seen mark = point_at (fresh assigned) seen mark

-- the bytes, if they are given, grow by the replies of all exchanges
abbrev pub AppendsReplies : Option (List ℕ) → Option (List ℕ) → List Exchange → Type 0
AppendsReplies old new exchanges = Appends old new (replies_of exchanges)

-- the bytes, if they are given, grow by the replies of every exchange but the last, and by a prefix of the last one's
abbrev pub AppendsIntoLast : Option (List ℕ) → Option (List ℕ) → List Exchange → Type 0
AppendsIntoLast old new exchanges = (before : List Exchange) × (last : List Exchange) × (exchanges ≡ before ++ last) × (length last ≤ 1)
    × (front : List ℕ) × (back : List ℕ) × (replies_of last ≡ front ++ back) × Appends old new (replies_of before ++ front)

-- All replies were written, or the last exchange's only in part before the writer or memory failed.
abbrev pub WritesReplies : {T : Type 0} → Result T ServeFault → Option (List ℕ) → Option (List ℕ) → List Exchange → Type 0
WritesReplies (Ok x) old new exchanges = AppendsReplies old new exchanges
WritesReplies (Err Read) old new exchanges = AppendsReplies old new exchanges
WritesReplies (Err Write) old new exchanges = AppendsIntoLast old new exchanges
WritesReplies (Err NoMemory) old new exchanges = AppendsIntoLast old new exchanges

-- What contracts see of a gate: the lists for which some gate of its type stands at a mark, those for which it stands itself, its mark, and
-- the changes that it expects.
pub record GateView : Type 1 where
  pub stands_at : Mark → List Entry → Type 0
  pub stands : List Entry → Type 0
  pub mark : Mark
  pub pending : List Operation

abbrev pub gate_view : {G : Type 0} → (G → List Entry → Type 0) → (G → Mark) → (G → List Operation) → G → GateView
gate_view stands mark pending gate = record {
  stands_at = StandsAt stands mark;
  stands = stands gate;
  mark = mark gate;
  pending = pending gate;
}

-- what holds of the bytes that were consumed, of the times that were told, and of the exchanges whose replies were written
pub record Traffic : Type 1 where
  pub consumed : List ℕ → Type 0
  pub told : List ℕ → Type 0
  pub written : List Exchange → Type 0

-- From this point there was a run of a session, whose lists and marks are those of gates of this gate's type. It ends in this
-- state, at a list that the gate stands for, with the gate's mark. The bytes that were consumed are its inputs and what is buffered; the
-- times that were told are its times, one for each input; what was written is the replies of its exchanges.
pub record Conversation (from : Point State) (gate : GateView) (state : State) (traffic : Traffic) (buffered : List ℕ) : Type 0 where
  pub exchanges : List Exchange
  pub seen : List Entry
  pub bytes : List ℕ
  pub run : Run from exchanges (point_at state seen gate.mark)
  pub of_gate : AreOfGate gate.stands_at exchanges
  pub stood_for : gate.stands seen
  pub read : traffic.consumed bytes
  pub inputs : InputsOf (inputs_of exchanges) bytes buffered
  pub moments : traffic.told (moments_of exchanges)
  pub replies : traffic.written exchanges

-- These changes are those of the last exchange's input, which sent nothing and ended the session, and of what is planned behind it.
pub record IsUnsent (from : Point State) (exchanges : List Exchange) (planned : List Given) (changes : List Operation) : Type 0 where
  pub before : List Exchange
  pub last : Exchange
  pub whole : exchanges ≡ before ++ last ∷ []
  pub unused : last.to.mark ≡ (point_after from before).mark
  pub ended : step_of last.to.state.phase ≡ End
  pub are : AreChanges (last.given ∷ planned) changes

-- the changes that are still expected: of what is planned, or of the last exchange's input too
abbrev pub AreLeft : Point State → List Exchange → List Given → List Operation → Type 0
AreLeft from exchanges planned changes = AreChanges planned changes ⊎ IsUnsent from exchanges planned changes

-- Such a conversation, and what was decoded and not handled: it follows the last input that was handled, and then come the bytes
-- that are left. Its times were told after those of the exchanges. If the gate expected nothing first, it expects only changes of these.
pub record Talks (from : Point State) (first : List Operation) (gate : GateView) (state : State) (traffic : Traffic) (planned : List Given)
    (left : List ℕ) : Type 0 where
  pub buffered : List ℕ
  pub conversation : Conversation from gate state
      (record traffic { told = λ moments. traffic.told (moments ++ planned_moments planned) }) buffered
  pub whole : InputsOf (planned_inputs planned) buffered left
  pub expected : first ≡ [] → AreLeft from conversation.exchanges planned gate.pending

-- one exchange of it
pub record MakesExchange (from : Point State) (given : Given) (gate : GateView) (state : State) (written : List ℕ → Type 0) : Type 0 where
  pub exchange : Exchange
  pub seen : List Entry
  pub is_exchange : IsExchange from exchange
  pub of_gate : IsOfGate gate.stands_at exchange
  pub given_is : exchange.given ≡ given
  pub to_is : exchange.to ≡ point_at state seen gate.mark
  pub stood_for : gate.stands seen
  pub replies : written (all_reply_bytes exchange.replies)

-- ---- how it ends

abbrev pub served_by : Closing → Served
served_by closing.ByClient = ClientClosed
served_by (closing.ByServer code) = ServerClosed code
served_by closing.Dropped = Dropped

abbrev pub served_as : Option Closing → Option Served
served_as None = None
served_as (Some c) = Some (served_by c)

-- how the run ended
abbrev pub ClosesAs : Served → State → List ℕ → Type 0 → Type 0
ClosesAs ClientClosed state buffered at_end = closing_of state.phase ≡ Some closing.ByClient
ClosesAs EndOfInput state buffered at_end = (closing_of state.phase ≡ None) × (buffered ≡ []) × at_end
ClosesAs CutInput state buffered at_end = (closing_of state.phase ≡ None) × (buffered ≢ []) × IsMore buffered × at_end
ClosesAs (ServerClosed code) state buffered at_end = closing_of state.phase ≡ Some (closing.ByServer code)
ClosesAs Dropped state buffered at_end = closing_of state.phase ≡ Some closing.Dropped

-- the state in which a fault broke it off: all that was whole had been answered when the reader failed
abbrev pub BreaksAt : ServeFault → State → List ℕ → Type 0
BreaksAt Read state buffered = (closing_of state.phase ≡ None) × IsMore buffered
BreaksAt Write state buffered = Unit {0}
BreaksAt NoMemory state buffered = Unit {0}

abbrev pub Ends : Result Served ServeFault → State → List ℕ → Type 0 → Type 0
Ends (Ok served) state buffered at_end = ClosesAs served state buffered at_end
Ends (Err fault) state buffered at_end = BreaksAt fault state buffered

-- What a connection transferred: the bytes that its reader had left before and has left after, and those that its writer had before
-- and has after, if they are given; and what holds of the times that its clock told.
pub record Transfer : Type 1 where
  pub unread : Option (List ℕ)
  pub rest : Option (List ℕ)
  pub written : Option (List ℕ)
  pub more : Option (List ℕ)
  pub told : List ℕ → Type 0

-- the bytes were read, the times were told, and all replies were written, or the last exchange's only in part
abbrev pub traffic_of : Transfer → Result Served ServeFault → Traffic
traffic_of transfer result = record {
  consumed = Consumes transfer.unread transfer.rest;
  told = transfer.told;
  written = WritesReplies result transfer.written transfer.more;
}

-- From this point, with these changes expected first, a session was run over the bytes that were read, at the times that were told: those
-- of its exchanges, and then those of what was whole behind them and not handled, at most as many as the gate takes at once. What was
-- written is its replies, at a fault the last exchange's perhaps in part, and it ended so, with this gate.
abbrev pub IsConnection : Point State → List Operation → ℕ → GateView → Transfer → Result Served ServeFault → Type 0
IsConnection from first most gate transfer result = (state : State) × (planned : List Given) × (left : List ℕ) × (length planned ≤ most)
    × (talk : Talks from first gate state (traffic_of transfer result) planned left)
    × Ends result state talk.buffered (IsAtEnd transfer.rest)

-- The failures of the reader and of the writer rise only at the fault that says so.
abbrev pub Causes : {T : Type 0} → Result T ServeFault → ℕ → ℕ → ℕ → ℕ → Type 0
Causes (Ok x) read_before read_after write_before write_after = (read_after ≡ read_before) × (write_after ≡ write_before)
Causes (Err Read) read_before read_after write_before write_after = (read_before < read_after) × (write_after ≡ write_before)
Causes (Err Write) read_before read_after write_before write_after = (read_after ≡ read_before) × (write_before < write_after)
Causes (Err NoMemory) read_before read_after write_before write_after = (read_after ≡ read_before) × (write_after ≡ write_before)

abbrev pub IsReadCause : {T : Type 0} → Result T ServeFault → ℕ → ℕ → Type 0
IsReadCause (Ok x) before after = after ≡ before
IsReadCause (Err Read) before after = before < after
IsReadCause (Err Write) before after = ⊥
IsReadCause (Err NoMemory) before after = after ≡ before

-- what one read found
abbrev pub IsEnd : Result (Option Served) ServeFault → List ℕ → List ℕ → Type 0 → Type 0
IsEnd (Ok None) old new at_end = new ≢ old
IsEnd (Ok (Some ClientClosed)) old new at_end = ⊥
IsEnd (Ok (Some EndOfInput)) old new at_end = (new ≡ old) × (new ≡ []) × at_end
IsEnd (Ok (Some CutInput)) old new at_end = (new ≡ old) × (new ≢ []) × at_end
IsEnd (Ok (Some (ServerClosed code))) old new at_end = ⊥
IsEnd (Ok (Some Dropped)) old new at_end = ⊥
IsEnd (Err fault) old new at_end = new ≡ old
