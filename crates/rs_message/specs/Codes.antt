-- The numbers of the faults of a submit.
use Rattle.std.specs.Prelude.{ℕ}
use Rattle.rs_message.specs.declared.fault.SubmitFault.{SubmitFault}
use Rattle.rs_message.specs.declared.fault.SubmitFault.TheVariants.{Full, NoMemory, Open, Strange, Closed}

abbrev pub code_of : SubmitFault → ℕ
code_of Full = 40
code_of NoMemory = 41
code_of Open = 42
code_of Strange = 43
code_of Closed = 44
