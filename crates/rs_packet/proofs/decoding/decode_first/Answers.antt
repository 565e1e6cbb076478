use Rattle.rs_packet.proofs.Prefixes.{body_from_given, packet_answer, more_answer, fault_answer}
use Rattle.rs_packet.proofs.decoding.decode_first.Goals as goal

pub decode_body-requires-clause-start : goal.decode_body-requires-clause-start
decode_body-requires-clause-start c = (body_from_given c.as_slice.result.now c.args.bytes.now c.in-Ok-Some.header c.as_slice.ensures (rw c.in-Ok-Some.field-0-is at c.in-Ok-Some.ensures)).start_fits

pub decode_body-requires-clause-small : goal.decode_body-requires-clause-small
decode_body-requires-clause-small c = (body_from_given c.as_slice.result.now c.args.bytes.now c.in-Ok-Some.header c.as_slice.ensures (rw c.in-Ok-Some.field-0-is at c.in-Ok-Some.ensures)).body_fits

pub returns-in-Ok-Some : goal.returns-in-Ok-Some
returns-in-Ok-Some c = packet_answer c.as_slice.result.now c.args.bytes.now c.in-Ok-Some.header c.decode_body.result c.as_slice.ensures (rw c.in-Ok-Some.field-0-is at c.in-Ok-Some.ensures) c.decode_body.ensures

pub returns-in-Ok-None : goal.returns-in-Ok-None
returns-in-Ok-None c = more_answer c.as_slice.result.now c.args.bytes.now c.as_slice.ensures (rw c.in-Ok-None.field-0-is at c.in-Ok-None.ensures)

pub returns-in-Err : goal.returns-in-Err
returns-in-Err c = fault_answer c.as_slice.result.now c.args.bytes.now c.in-Err.fault c.as_slice.ensures c.in-Err.ensures
