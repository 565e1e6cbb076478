-- The faults of the program, and its exit statuses.
use Rattle.std.specs.Prelude.{ℕ, cond, ltb, Option, Some, None, Result, Ok, Err}
use Rattle.rs_program_pipe.specs.Faults.{pipe_status}
use Rattle.rs_program.specs.declared.words.WordsFault.{WordsFault}
use Rattle.rs_program.specs.declared.words.WordsFault.TheVariants as words
use Rattle.rs_program.specs.declared.program.RunFault.{RunFault}
use Rattle.rs_program.specs.declared.program.RunFault.TheVariants as run

abbrev pub words_status : WordsFault → ℕ
words_status (words.Help text) = 0
words_status (words.Refused text) = 2
words_status words.NoMemory = 1

abbrev pub fault_status : RunFault → ℕ
fault_status (run.Words fault) = words_status fault
fault_status (run.Pipe fault) = pipe_status fault
fault_status (run.Listen reason) = 1
fault_status (run.Keep reason) = 1
fault_status (run.FewThreads threads places) = 1
fault_status (run.FewClients served clients) = 1
fault_status run.Unsettled = 1

-- how a server ended: its changes are settled, each place had a thread, and as many clients as were to be could be served at once, or not
abbrev pub server_outcome : ℕ → ℕ → Option ℕ → ℕ → ℕ → Result (Unit {0}) RunFault
server_outcome threads served None places clients = Err run.Unsettled
server_outcome threads served (Some changes) places clients =
    cond (ltb threads places) (Err (run.FewThreads threads places)) (cond (ltb served clients) (Err (run.FewClients served clients)) (Ok tt))

-- 0 if the connection ended, however
abbrev pub run_status : {T : Type 0} → Result T RunFault → ℕ
run_status (Ok ended) = 0
run_status (Err fault) = fault_status fault
