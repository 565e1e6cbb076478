use Rattle.rs_packet.proofs.AnswerLaws.{encoded_once, reply_once}
use Rattle.rs_packet.proofs.ReplyLaws.{one_reply}
use Rattle.rs_packet.proofs.decoding.wire_law.Goals as goal

pub returns : goal.returns
returns c = record { packets = encoded_once; replies = reply_once; one_reply = one_reply }
