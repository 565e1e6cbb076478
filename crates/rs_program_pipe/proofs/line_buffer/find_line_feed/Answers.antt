use Rattle.rs_program_pipe.proofs.LineLemmas.{line_end_at}
use Rattle.rs_program_pipe.proofs.line_buffer.find_line_feed.Goals as goal
use Rattle.std.proofs.Common.{◌<◌, length, arith}

pub returns-then-b-eq10-clause-found : goal.returns-then-b-eq10-clause-found
returns-then-b-eq10-clause-found c =
    let within : c.loop-at.at < length c.args.text.now = omega arith in
    line_end_at c.args.text.now c.loop-at.at within c.if-b-eq10.true c.loop-at.invariant
