-- When it may pay for a read to poll before it blocks.
use Rattle.std.specs.Prelude.{◌≡◌, ◌<◌, ◌%◌, ◌⊎◌, ℕ, Bool, true}
use Rattle.rs_tcp_sockets.specs.declared.patience.ReadPatience.{ReadPatience}
use Rattle.rs_tcp_sockets.specs.declared.patience.TheConstants.{MOST_IN_VAIN, POLL_EVERY}

-- how many reads in a row gained nothing by polling
abbrev pub in_vain_of : ReadPatience → ℕ
in_vain_of it = it.in_vain

-- whether the last read gave few bytes
abbrev pub is_short_of : ReadPatience → Bool
is_short_of it = it.is_short

-- The client was answered and had sent few bytes. Few reads in a row gained nothing, or it is time to try again.
abbrev pub MayPay : Bool → ReadPatience → Type 0
MayPay is_answered it =
    (is_answered ≡ true) × (it.is_short ≡ true)
    × ((it.in_vain < MOST_IN_VAIN) ⊎ (it.in_vain % POLL_EVERY ≡ 0))
