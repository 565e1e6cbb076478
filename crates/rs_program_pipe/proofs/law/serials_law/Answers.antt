use Rattle.rs_store.specs.History.{SerialsRise}
use Rattle.rs_session.proofs.Runs.{of_gate_weaker}
use Rattle.rs_program_pipe.specs.Memory.{IsOfMark}
use Rattle.rs_program_pipe.proofs.law.serials_law.Goals as goal

pub returns : goal.returns
returns c = λ input now served output s. of_gate_weaker IsOfMark (λ mark list. SerialsRise list) s.exchanges (λ mark list h. h.legal.rises) s.each
