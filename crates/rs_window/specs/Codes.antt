-- The numbers of the faults of a window.
use Rattle.std.specs.Prelude.{ℕ}
use Rattle.rs_window.specs.declared.fault.WindowFault.{WindowFault}
use Rattle.rs_window.specs.declared.fault.WindowFault.TheVariants.{TooManyWaiting, NoMemory, WrongKind, TooManyHeld}

abbrev pub code_of : WindowFault → ℕ
code_of TooManyWaiting = 50
code_of NoMemory = 51
code_of WrongKind = 52
code_of TooManyHeld = 53
