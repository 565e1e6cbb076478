use Rattle.std.proofs.Common.{List, ℕ, subst}
use Rattle.rs_packet_field.proofs.Fields.{IsBytes}
use Rattle.rs_packet.proofs.AnswerLaws.{found, only}
use Rattle.rs_packet.proofs.decoding.decode.Goals as goal

pub returns-clause-found : goal.returns-clause-found
returns-clause-found c = found c.args.bytes.now c.decode_first.result (subst (λ (xs : List ℕ). IsBytes xs) c.as_slice.ensures c.note_octets.ensures) c.decode_first.ensures

pub returns-clause-only : goal.returns-clause-only
returns-clause-only c p n le h = only c.args.bytes.now c.decode_first.result p n c.decode_first.ensures le h
