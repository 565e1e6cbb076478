use Rattle.std.proofs.Common.{◌∙◌, refl}
use Rattle.tests_wire.proofs.connections.steps.serve_in_steps.Goals as goal

pub steps-preserved : goal.steps-preserved
steps-preserved g c =
    record {
      waits = c.in_default-handle.ensures.waits refl;
      reader = (c.in_default.ensures.cause 0).0 ∙ c.steps.invariant.reader;
      writer = (c.in_default-handle.ensures.cause 0).1 ∙ c.steps.invariant.writer;
    }
