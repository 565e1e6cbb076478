use Rattle.rs_packet_field.proofs.PropertyLaws.{values_none}
use Rattle.rs_packet_field.proofs.properties.read_section.Goals as goal

pub returns-then-len-eq0 : goal.returns-then-len-eq0
returns-then-len-eq0 c = rw c.new.ensures (values_none c.args.owner c.args.rest.now c.read_varint.new.rest (rw c.if-len-eq0.true at c.in_ok-len.ensures.number))
