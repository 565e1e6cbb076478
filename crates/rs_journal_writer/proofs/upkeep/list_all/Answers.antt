use Rattle.rs_journal_writer.proofs.upkeep.list_all.Goals as goal

pub returns-in-Ok-Some-clause-lists : goal.returns-in-Ok-Some-clause-lists
returns-in-Ok-Some-clause-lists g c = λ _ _. let t = rw c.in-Ok-Some.field-0-is at c.in-Ok-Some.ensures in (t.0.retained, t.1.retained, t.2)
