-- The session waits, and nothing failed.
use Rattle.std.proofs.Common.{◌≡◌}
use Rattle.rs_server.specs.Counts.{failures_of}
use Rattle.rs_server.specs.Serving.{Waits}
use Rattle.tests_wire.proofs.connections.steps.serve_in_steps.Given as goal

abbrev pub invariant-steps : goal.invariant-steps
invariant-steps g l =
    record {
      waits : Waits l.serving;
      reader : failures_of l.reader ≡ failures_of l.initial.reader;
      writer : failures_of l.writer ≡ failures_of l.initial.writer;
    }
