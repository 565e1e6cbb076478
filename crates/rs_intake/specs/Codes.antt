-- The numbers of the faults of a settlement.
use Rattle.std.specs.Prelude.{ℕ}
use Rattle.rs_intake.specs.declared.fault.SettleFault.{SettleFault}
use Rattle.rs_intake.specs.declared.fault.SettleFault.TheVariants.{Unsettled}

abbrev pub code_of : SettleFault → ℕ
code_of Unsettled = 45
