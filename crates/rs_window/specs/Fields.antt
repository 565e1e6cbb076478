-- What holds of a window's fields.
use Rattle.std.specs.Prelude.{◌≡◌, ℕ, ◌<◌, ◌≤◌, ◌^◌, Bool, true, false, List, length}
use Rattle.std.specs.List.{AllByRecursion}
use Rattle.slab.specs.Slab.{Slab, slab_len}
use Rattle.rs_message.specs.declared.qos.Qos.TheVariants.{AtMostOnce}
use Rattle.rs_window.specs.declared.identifiers.Kind.{Kind}
use Rattle.rs_window.specs.declared.waiting.Waiting.{Waiting}
use Rattle.rs_window.specs.declared.waiting.TheConstants.{MAX_WAITING}

-- slots are reserved for the whole quota, and the number of each slot plus 1 is an identifier
abbrev pub AreReserved : Slab Kind → ℕ → Type 0
AreReserved identifiers quota = (quota ≤ identifiers.capacity) × (identifiers.capacity < 2 ^ 16)

-- none of them needs an identifier: their subscriptions were granted QoS 0
abbrev pub NeedNone : List Waiting → Type 0
NeedNone waiting = AllByRecursion (λ w. w.granted ≡ AtMostOnce) waiting

-- no more identifiers than the quota are in use, slots are reserved, or what waits needs none, and not too many messages wait
pub record IsInBounds (identifiers : Slab Kind) (waiting : List Waiting) (quota : ℕ) (is_reserved : Bool) : Type 0 where
  pub within : slab_len identifiers ≤ quota
  pub reserved : is_reserved ≡ true → AreReserved identifiers quota
  pub unneeded : is_reserved ≡ false → NeedNone waiting
  pub few : length waiting ≤ MAX_WAITING
