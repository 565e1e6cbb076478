-- What was handled so far.
use Rattle.std.proofs.Common.{◌≡◌, ℕ, List, Option, None}
use Rattle.rs_message.specs.declared.entry.Operation.{Operation}
use Rattle.rs_session.specs.Points.{Point}
use Rattle.rs_session.specs.State.{State, closing_of, due_of, gate_of, state_of}
use Rattle.rs_server.specs.Counts.{inner_of, failures_of}
use Rattle.rs_server.specs.Conversation.{gate_view}
use Rattle.rs_server.specs.Serving.{IsBeingHandled, transfer_from}
use Rattle.rs_server.proofs.serving.handle_all.Given as goal

abbrev pub invariant-loop : goal.invariant-loop
invariant-loop g l =
    record {
      handled : (from : Point State) (first : List Operation) (unread rest written : Option (List ℕ)) (told : Option (ℕ → ℕ))
          → IsBeingHandled from first g.G.Gate.most (gate_view g.G.Gate.stands g.G.Gate.mark g.G.Gate.pending (gate_of l.initial.session)) (state_of l.initial.session)
          (transfer_from unread rest written (g.W.Write.contents (inner_of l.initial.writer)) told (g.C.Clock.moments l.initial.clock)) l.initial.planned.items l.initial.buffered.items
          → IsBeingHandled from first g.G.Gate.most (gate_view g.G.Gate.stands g.G.Gate.mark g.G.Gate.pending (gate_of l.session)) (state_of l.session)
          (transfer_from unread rest written (g.W.Write.contents (inner_of l.writer)) told (g.C.Clock.moments l.clock)) l.planned.items l.buffered.items;
      none_due : due_of l.session ≡ None;
      goes_on : closing_of (state_of l.session).phase ≡ None;
      writer : failures_of l.writer ≡ failures_of l.initial.writer;
    }
