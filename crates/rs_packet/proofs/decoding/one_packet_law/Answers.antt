use Rattle.rs_packet.proofs.Prefixes.{one_encoding, no_fault, not_more, fault_stays}
use Rattle.rs_packet.proofs.decoding.one_packet_law.Goals as goal

pub returns : goal.returns
returns c = record { one_packet = one_encoding; no_fault = no_fault; not_more = not_more; stays = fault_stays }
