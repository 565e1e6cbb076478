use Rattle.std.proofs.Common.{◌≡◌}
use Rattle.rs_version.specs.Writer.{kept_of}
use Rattle.rs_intake.proofs.running.run_writer_for.Given as goal

abbrev pub invariant-loop-step : goal.invariant-loop-step
invariant-loop-step g l = l.writer.first ≡ kept_of (g.S.StoreWriter.written l.fn.writer)
