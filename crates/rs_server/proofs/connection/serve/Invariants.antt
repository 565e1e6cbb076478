-- The connection so far.
use Rattle.std.proofs.Common.{◌≡◌, List}
use Rattle.rs_message.specs.declared.entry.Entry.{Entry}
use Rattle.rs_server.specs.Counts.{inner_of, failures_of}
use Rattle.rs_server.specs.Conversation.{gate_view, start, assigned_of}
use Rattle.rs_server.specs.Serving.{IsUnderway, Waits, transfer_from}
use Rattle.rs_server.proofs.connection.serve.Given as goal

abbrev pub invariant-serving : goal.invariant-serving
invariant-serving g l =
    record {
      underway : (seen : List Entry) → g.G.Gate.stands l.fn.gate seen
          → IsUnderway (start (assigned_of l.fn.id.place l.fn.id.number) seen (g.G.Gate.mark l.fn.gate)) (g.G.Gate.pending l.fn.gate) g.G.Gate.most
          (gate_view g.G.Gate.stands g.G.Gate.mark g.G.Gate.pending)
          (transfer_from (g.R.Read.remaining (inner_of l.initial.reader)) (g.R.Read.remaining (inner_of l.reader)) (g.W.Write.contents (inner_of l.initial.writer)) (g.W.Write.contents (inner_of l.writer)) (g.C.Clock.moments l.initial.clock) (g.C.Clock.moments l.clock)) l.serving;
      waits : Waits l.serving;
      reader : failures_of l.reader ≡ failures_of l.initial.reader;
      writer : failures_of l.writer ≡ failures_of l.initial.writer;
    }
