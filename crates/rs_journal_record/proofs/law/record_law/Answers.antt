use Rattle.rs_journal_record.proofs.RecordForms.{record_again}
use Rattle.rs_journal_record.proofs.Laws.{only_records, no_other, parts_cut_off, read_again, begin_alike}
use Rattle.rs_journal_record.proofs.law.record_law.Goals as goal

pub returns : goal.returns
returns c = record { again = record_again; only = only_records; apart = no_other; cut_off = parts_cut_off; list = read_again; parts = begin_alike }
