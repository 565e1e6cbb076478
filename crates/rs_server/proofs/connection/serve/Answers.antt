use Rattle.std.proofs.Common.{Err, ◌∙◌, refl}
use Rattle.rs_server.specs.Counts.{inner_of}
use Rattle.rs_server.specs.Conversation.{assigned_of, gate_view}
use Rattle.rs_server.specs.Serving.{transfer_from}
use Rattle.rs_server.specs.declared.writing.ServeFault.TheVariants.{NoMemory}
use Rattle.rs_server.proofs.Goings.{connection_back, none_served}
use Rattle.rs_server.proofs.connection.serve.Goals as goal

pub returns-in-Err-clause-conversation : goal.returns-in-Err-clause-conversation
returns-in-Err-clause-conversation g c = λ seen s.
    connection_back g.G.Gate.stands g.G.Gate.mark g.G.Gate.pending c.args.gate c.in-Err.gate _ _ _ (transfer_from (g.R.Read.remaining (inner_of c.args.reader.now)) (g.R.Read.remaining (inner_of c.args.reader.now)) (g.W.Write.contents (inner_of c.args.writer.now)) (g.W.Write.contents (inner_of c.args.writer.now)) (g.C.Clock.moments c.args.clock.now) (g.C.Clock.moments c.args.clock.now)) (Err NoMemory) c.in-Err.ensures.refused
    (none_served g.G.Gate.most (gate_view g.G.Gate.stands g.G.Gate.mark g.G.Gate.pending c.args.gate) (assigned_of c.args.id.place c.args.id.number) (g.R.Read.remaining (inner_of c.args.reader.now)) (g.C.Clock.moments c.args.clock.now) (g.W.Write.contents (inner_of c.args.writer.now)) seen s)

pub serving-init : goal.serving-init
serving-init g c =
    record {
      underway = λ seen s. c.in-Ok.ensures.underway seen (g.R.Read.remaining (inner_of c.args.reader.now)) (g.W.Write.contents (inner_of c.args.writer.now)) (g.C.Clock.moments c.args.clock.now) s;
      waits = c.in-Ok.ensures.waits;
      reader = refl;
      writer = refl;
    }

pub returns-in-Some-go_on-clause-conversation : goal.returns-in-Some-go_on-clause-conversation
returns-in-Some-go_on-clause-conversation g c = λ seen s.
    connection_back g.G.Gate.stands g.G.Gate.mark g.G.Gate.pending _ c.into_parts-gate.result.0 _ _ _ _ _ c.into_parts-gate.ensures
    (c.in-Some-go_on.ensures.underway _ _ (g.R.Read.remaining (inner_of c.args.reader.now)) (g.W.Write.contents (inner_of c.args.writer.now)) (g.C.Clock.moments c.args.clock.now) (c.serving.invariant.underway seen s))

pub serving-preserved : goal.serving-preserved
serving-preserved g c =
    record {
      underway = λ seen s. c.in_default.ensures.underway _ _ (g.R.Read.remaining (inner_of c.args.reader.now)) (g.W.Write.contents (inner_of c.args.writer.now)) (g.C.Clock.moments c.args.clock.now) (c.serving.invariant.underway seen s);
      waits = c.in_default.ensures.waits refl;
      reader = c.in_default.ensures.cause.0 ∙ c.serving.invariant.reader;
      writer = c.in_default.ensures.cause.1 ∙ c.serving.invariant.writer;
    }
