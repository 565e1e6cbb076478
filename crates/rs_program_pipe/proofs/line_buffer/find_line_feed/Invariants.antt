-- No line feed was met.
use Rattle.std.proofs.Common.{◌≡◌, false, take}
use Rattle.rs_program_pipe.specs.Lines.{has_line_feed}
use Rattle.rs_program_pipe.proofs.line_buffer.find_line_feed.Given as goal

abbrev pub invariant-loop-at : goal.invariant-loop-at
invariant-loop-at l = has_line_feed (take l.at l.text) ≡ false
