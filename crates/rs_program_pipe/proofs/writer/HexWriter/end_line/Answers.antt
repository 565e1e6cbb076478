use Rattle.rs_program_pipe.proofs.WriterLemmas.{line_ended}
use Rattle.rs_program_pipe.proofs.writer.HexWriter.end_line.Goals as goal

pub returns-in-Ok-clause-bytes : goal.returns-in-Ok-clause-bytes
returns-in-Ok-clause-bytes g c = line_ended _ _ _ _ c.requires c.in-Ok.ensures c.flush.ensures.bytes
