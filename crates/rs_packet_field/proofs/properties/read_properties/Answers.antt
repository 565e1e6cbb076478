use Rattle.std.proofs.Common.{List, ℕ, subst}
use Rattle.rs_packet_field.proofs.Fields.{IsBytes}
use Rattle.rs_packet_field.proofs.Sizes.{values_is, values_size}
use Rattle.rs_packet_field.proofs.properties.read_properties.Goals as goal

pub returns-clause-fits : goal.returns-clause-fits
returns-clause-fits c = values_is c.args.owner c.args.rest.now c.read_section.new.rest c.read_section.result (subst (λ (xs : List ℕ). IsBytes xs) c.as_slice.ensures c.note_octets.ensures) c.read_section.ensures

pub returns-clause-size : goal.returns-clause-size
returns-clause-size c = values_size c.args.owner c.args.rest.now c.read_section.new.rest c.read_section.result (subst (λ (xs : List ℕ). IsBytes xs) c.as_slice.ensures c.note_octets.ensures) c.read_section.ensures
