use Rattle.std.proofs.Common.{refl}
use Rattle.rs_program_pipe.proofs.WriterLemmas.{chunk_written}
use Rattle.rs_program_pipe.proofs.writer.HexWriter.write_digits.Goals as goal

pub returns-in-Ok-clause-digits : goal.returns-in-Ok-clause-digits
returns-in-Ok-clause-digits g c =
    chunk_written _ _ _ _ _ _ _ refl c.in-Ok.ensures.written c.write_text.ensures.count c.write_text.ensures.digits
