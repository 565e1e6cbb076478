use Rattle.rs_program_pipe.proofs.piping.pipe.Goals as goal

pub returns-then-hex : goal.returns-then-hex
returns-then-hex g c = rw c.if-hex.true c.pipe_lines.ensures

pub returns-else-hex : goal.returns-else-hex
returns-else-hex g c = rw c.if-hex.false c.pipe_bytes.ensures
