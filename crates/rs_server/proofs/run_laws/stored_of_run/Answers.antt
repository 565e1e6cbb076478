use Rattle.rs_server.proofs.Keeping.{run_lists, run_keeps, run_marks}
use Rattle.rs_server.proofs.run_laws.stored_of_run.Goals as goal

pub returns-clause-lists : goal.returns-clause-lists
returns-clause-lists c = run_lists

pub returns-clause-publications : goal.returns-clause-publications
returns-clause-publications c = run_keeps

pub returns-clause-marks : goal.returns-clause-marks
returns-clause-marks c = run_marks
