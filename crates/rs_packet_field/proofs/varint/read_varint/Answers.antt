use Rattle.std.proofs.Common.{refl}
use Rattle.rs_packet_field.specs.Reading.{varint_at}
use Rattle.rs_packet_field.proofs.Numbers.{digits_rest}
use Rattle.rs_packet_field.proofs.varint.read_varint.Goals as goal

pub returns-clause-number : goal.returns-clause-number
unfolding varint_at
returns-clause-number c =
    let end = digits_rest 4 c.as_slice-bytes.result.now (c.in-Ok.n, c.in-Ok.behind.now) c.in-Ok.ensures.number in
    rw (c.advance.ensures, ← c.as_slice-bytes.ensures, end.same, c.in-Ok.ensures.number) refl
