use Rattle.std.proofs.Common.{List, ℕ, subst}
use Rattle.rs_packet_field.proofs.Fields.{IsBytes}
use Rattle.rs_journal_record.proofs.Laws.{found}
use Rattle.rs_journal_record.proofs.record.read_record.Goals as goal

pub returns-clause-found : goal.returns-clause-found
returns-clause-found c = found c.args.rest.now c.read_any.new.rest c.read_any.result (subst (λ (bytes : List ℕ). IsBytes bytes) c.as_slice.ensures c.note_octets.ensures) c.read_any.ensures
