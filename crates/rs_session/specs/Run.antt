-- A session over a list of inputs.
use Rattle.std.specs.Prelude.{◌≡◌, ℕ, ◌+◌, ◌≤◌, Option, Some, None, List, [], ◌∷◌, length}
use Rattle.std.specs.List.{All}
use Rattle.std.specs.FinMap as finite
use Rattle.std.specs.FinSet as set
use Rattle.rs_packet.specs.declared.limits.TheConstants.{RECEIVE_MAXIMUM}
use Rattle.rs_packet.specs.declared.reply.Reply.{Reply}
use Rattle.rs_message.specs.declared.entry.Entry.{Entry}
use Rattle.rs_window.specs.declared.waiting.TheConstants.{MAX_WAITING}
use Rattle.rs_window.specs.declared.window.TheConstants.{MAX_QUOTA}
use Rattle.rs_session.specs.declared.open.Open.{Open}
use Rattle.rs_session.specs.declared.subscriptions.TheConstants.{MAX_SUBSCRIPTIONS}
use Rattle.rs_session.specs.Gate.{Mark, Extends}
use Rattle.rs_session.specs.Points.{Given, Point, with_state}
use Rattle.rs_session.specs.State.{State, closing_of, waiting_of, IsGiven}
use Rattle.rs_session.specs.Table.{Case, Row}

-- what was given at a moment, the lists by which the filters of a SUBSCRIBE were answered, all that was replied to it,
-- and where the run stands then
pub record Exchange : Type 0 where
  pub given : Given
  pub answered : List (List Entry)
  pub replies : List Reply
  pub to : Point State

-- these replies are given one after the other
abbrev pub Gives : ℕ → Option Reply → State → List Reply → Option Reply → State → Type 0
Gives now due old [] left new = (left ≡ due) × (new ≡ old)
Gives now due old (reply ∷ replies) left new = (later : Option Reply) × (mid : State) × IsGiven now due old (Some reply) later mid
    × Gives now later mid replies left new

-- these, and then none
pub record GivesAll (now : ℕ) (due : Option Reply) (old : State) (replies : List Reply) (new : State) : Type 0 where
  pub left : Option Reply
  pub last : State
  pub given : Gives now due old replies left last
  pub none_left : IsGiven now left last None None new

-- one row of the table in a session that goes on, and then the replies that it leaves due and those that wait
pub record IsExchange (from : Point State) (exchange : Exchange) : Type 0 where
  pub goes_on : closing_of from.state.phase ≡ None
  pub case : Case
  pub due : Option Reply
  pub mid : State
  pub grows : Extends exchange.to.seen from.seen
  pub row : Row case exchange.given from exchange.answered due (with_state exchange.to mid)
  pub all_given : GivesAll exchange.given.now due mid exchange.replies exchange.to.state

-- one exchange after the other
abbrev pub Run : Point State → List Exchange → Point State → Type 0
Run from [] to = to ≡ from
Run from (exchange ∷ exchanges) to = IsExchange from exchange × Run exchange.to exchanges to

-- the list after an exchange, and each by which a filter was answered, are a gate's while it has the mark after the exchange
pub record IsOfGate (stands_at : Mark → List Entry → Type 0) (exchange : Exchange) : Type 0 where
  pub answered : All (stands_at exchange.to.mark) exchange.answered
  pub seen : stands_at exchange.to.mark exchange.to.seen

-- the lists and the mark of each exchange are those of a gate
abbrev pub AreOfGate : (Mark → List Entry → Type 0) → List Exchange → Type 0
AreOfGate stands_at [] = Unit {0}
AreOfGate stands_at (exchange ∷ exchanges) = IsOfGate stands_at exchange × AreOfGate stands_at exchanges

abbrev pub due_count : Option Reply → ℕ
due_count None = 0
due_count (Some reply) = 1

-- how many replies are left at most
abbrev pub replies_left : Option Reply → State → ℕ
replies_left due state = due_count due + length (waiting_of state.phase)

-- 3.2.2.3.3, 4.9: the most that an open session keeps of subscriptions, of identifiers of QoS 2, of messages that wait, and
-- of messages that are not acknowledged
pub record IsWithinLimits (o : Open) : Type 0 where
  pub subscriptions : finite.len o.subscriptions ≤ MAX_SUBSCRIPTIONS
  pub unreleased : set.len o.inbound ≤ RECEIVE_MAXIMUM
  pub waiting : length o.window.waiting ≤ MAX_WAITING
  pub unacknowledged : finite.len o.window.kinds ≤ o.window.quota
  pub quota : o.window.quota ≤ MAX_QUOTA
