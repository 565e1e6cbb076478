-- Faults of the basic forms as faults of a record.
use Rattle.std.proofs.Common.{Result, ap}
use Rattle.rs_packet_field.specs.declared.fault.PacketFault.{PacketFault}
use Rattle.rs_packet_field.specs.declared.fault.PacketFault.TheVariants as packet
use Rattle.rs_packet_field.specs.Reading as field
use Rattle.rs_journal_record.specs.Fields.{Fails, cut_off, or_cut_off}

pub cut_off_fails : {Y : Type 0} (fault : PacketFault) (read : Result Y PacketFault) → field.Fails fault read → Fails (cut_off fault) (or_cut_off read)
cut_off_fails packet.NoMemory read h = tt
cut_off_fails packet.Malformed read h = ap or_cut_off h
cut_off_fails packet.Protocol read h = ap or_cut_off h
cut_off_fails packet.TooLarge read h = ap or_cut_off h
cut_off_fails packet.Version read h = ap or_cut_off h
