use Rattle.std.proofs.Common.{arith}
use Rattle.rs_packet_field.proofs.properties.note_octets.Goals as goal

pub returns : goal.returns
returns c i = omega (arith, c.type_inv.bytes i)
