use Rattle.std.proofs.Common.{arith}
use Rattle.hex.specs.Hex.{IsBytes}
use Rattle.rs_program_pipe.proofs.WriterLemmas.{bytes_written}
use Rattle.rs_program_pipe.proofs.writer.HexWriterWrite.write.Goals as goal

pub returns-in-Ok-clause-bytes : goal.returns-in-Ok-clause-bytes
returns-in-Ok-clause-bytes g c =
    let fits : IsBytes c.args.buf.now = λ i. omega (arith, c.type_inv.buf i) in
    bytes_written _ _ _ _ _ fits c.in-Ok.ensures.text c.write_digits.ensures.digits
