use Rattle.std.proofs.Common.{ap, refl, sym, List, ℕ, None}
use Rattle.rs_server.specs.Conversation.{start, assigned_of}
use Rattle.rs_server.specs.Moments.{told_by}
use Rattle.rs_server.proofs.Clocks.{one_moment}
use Rattle.rs_server.proofs.Conversations.{connection_as}
use Rattle.rs_program_pipe.proofs.piping.pipe_bytes.Goals as goal

pub returns : goal.returns
returns g c = λ seen s.
    let remaining = g.R.Read.remaining in
    let contents = g.W.Write.contents in
    record {
      outcome = c.serve-served.result.0;
      left = remaining c.into_inner.result;
      output = contents c.into_inner-2.result;
      line = None;
      connection = connection_as (start (assigned_of 1 1) seen (g.G.Gate.mark c.args.gate)) _ _ _ _ _ c.serve-served.result.0
          (ap remaining c.new-reader.ensures.inner) (ap remaining (sym c.into_inner.ensures))
          (ap contents c.new-writer.ensures.inner) (ap contents (sym c.into_inner-2.ensures))
          (λ (ms : List ℕ). one_moment c.args.at (told_by c.new-clock.result) _ c.new.result.items ms c.new-clock.ensures c.new.ensures.items)
          (c.serve-served.ensures.conversation seen s);
      left_is = refl;
      output_is = refl;
      answer = c.result_of.ensures;
    }
