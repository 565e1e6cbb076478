-- A window as its callers see it.
use Rattle.std.specs.Prelude.{ℕ, List, refl}
use Rattle.std.specs.Coded.{Coded, code_by, coded×, coded_ℕ, coded_list}
use Rattle.std.specs.FinMap as finite
use Rattle.rs_window.specs.contracts.identifiers.Kind as kind
use Rattle.rs_window.specs.contracts.waiting.Waiting as waiting
use Rattle.rs_window.specs.declared.waiting.Waiting.{Waiting}
use Rattle.rs_window.specs.Identifiers.{Kinds}

-- what each identifier in use waits for, the messages that wait, how many identifiers may be in use,
-- and how long a packet may be
pub record State : Type 0 where
  pub kinds : Kinds
  pub waiting : List Waiting
  pub quota : ℕ
  pub packet_maximum : ℕ

-- a state is stored as the tuple of its fields
abbrev pub state_code : Coded State
state_code =
    code_by
    (Kinds × (List Waiting × (ℕ × ℕ)))
    (coded× (finite.code coded_ℕ kind.the_row.coded) (coded× (coded_list waiting.the_row.coded) (coded× coded_ℕ coded_ℕ)))
    (λ s. (s.kinds, (s.waiting, (s.quota, s.packet_maximum))))
    (λ p. record { kinds = p.0; waiting = p.1.0; quota = p.1.1.0; packet_maximum = p.1.1.1 })
    (λ _. refl)

abbrev pub state_of : Kinds → List Waiting → ℕ → ℕ → State
state_of kinds waiting quota packet_maximum = record { kinds = kinds; waiting = waiting; quota = quota; packet_maximum = packet_maximum }
