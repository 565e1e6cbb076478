use Rattle.std.proofs.Common.{ap, refl, ◌∙◌, List, ℕ}
use Rattle.rs_program_pipe.specs.Views.{due_digits, hex_contents, hex_remaining, output_of}
use Rattle.rs_server.specs.Conversation.{start, assigned_of}
use Rattle.rs_server.specs.Counts.{inner_of}
use Rattle.rs_server.specs.Moments.{told_by}
use Rattle.rs_server.proofs.Clocks.{one_moment}
use Rattle.rs_server.proofs.Conversations.{connection_as}
use Rattle.rs_program_pipe.proofs.Outputs.{one_digit, same_output}
use Rattle.rs_program_pipe.proofs.piping.pipe_lines.Goals as goal

pub returns : goal.returns
returns g c = λ seen s.
    let remaining = hex_remaining g.R.Read.remaining in
    let contents = hex_contents g.W.Write.contents in
    let lines = inner_of c.serve-served.new.reader in
    let written = inner_of c.serve-served.new.writer in
    record {
      outcome = c.serve-served.result.0;
      left = remaining lines;
      output = contents written;
      line = c.not_hex.result;
      connection = connection_as (start (assigned_of 1 1) seen (g.G.Gate.mark c.args.gate)) _ _ _ _ _ c.serve-served.result.0
          (ap remaining c.new-reader.ensures.inner ∙ c.new.ensures.bytes) refl
          (ap contents c.new-writer.ensures.inner ∙ c.new-2.ensures.bytes) refl
          (λ (ms : List ℕ). one_moment c.args.at (told_by c.new-clock.result) _ c.new-3.result.items ms c.new-clock.ensures c.new-3.ensures.items)
          (c.serve-served.ensures.conversation seen s);
      left_is = tt;
      output_is = (due_digits written.due, one_digit written.due, same_output g.W.Write.contents written _ (c.into_inner-3.ensures ∙ ap output_of c.into_inner-2.ensures));
      answer = c.result_of.ensures;
    }
