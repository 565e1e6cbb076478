-- One connection over bytes in memory.
use Rattle.std.specs.Prelude.{◌≡◌, ℕ, List, [], ◌++◌, None}
use Rattle.std.specs.List.{All}
use Rattle.rs_message.specs.declared.entry.Entry.{Entry}
use Rattle.rs_store.specs.History.{IsLegal, last_serial}
use Rattle.rs_store.specs.Needed.{AreNeeded}
use Rattle.rs_session.specs.Gate.{Mark}
use Rattle.rs_session.specs.Points.{Point}
use Rattle.rs_session.specs.Run.{Exchange, Run, AreOfGate}
use Rattle.rs_session.specs.State.{State}
use Rattle.rs_server.specs.declared.connection.Served.{Served}
use Rattle.rs_program_pipe.specs.OwnStores.{IsOfOwnPlace, IsOwnEntry}
use Rattle.rs_program_pipe.specs.declared.own_store.TheConstants.{MAX_OWN_TOPICS}
use Rattle.rs_server.specs.Conversation.{InputsOf, inputs_of, moments_of, replies_of, assigned_of, start, ClosesAs}

-- The list is legal for the topics of an own store, its entries are of place 1, but for Sweeps that a Set of it would need
-- there, and the last serial is the mark's.
pub record IsOfMark (mark : Mark) (list : List Entry) : Type 0 where
  pub legal : IsLegal MAX_OWN_TOPICS list
  pub places : All IsOwnEntry list
  pub needed : AreNeeded MAX_OWN_TOPICS IsOfOwnPlace list
  pub serial : last_serial 1 list ≡ mark.serial

-- From an empty store, as connection 1 at place 1, a session was run over the packets of a prefix of the
-- input, each at this time. The output is its replies, and it ended so. The lists of each exchange have no entry
-- of a later one.
pub record IsServed (input : List ℕ) (now : ℕ) (served : Served) (output : List ℕ) : Type 0 where
  pub exchanges : List Exchange
  pub to : Point State
  pub taken : List ℕ
  pub buffered : List ℕ
  pub rest : List ℕ
  pub run : Run (start (assigned_of 1 1) [] (record { place = 1; serial = 0; sent = None })) exchanges to
  pub split : input ≡ taken ++ rest
  pub inputs : InputsOf (inputs_of exchanges) taken buffered
  pub moments : All (λ moment. moment ≡ now) (moments_of exchanges)
  pub replies : output ≡ replies_of exchanges
  pub closes : ClosesAs served to.state buffered (rest ≡ [])
  pub each : AreOfGate IsOfMark exchanges
  pub last : IsOfMark to.mark to.seen
