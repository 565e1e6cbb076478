-- What a reader or a writer with a count shows.
use Rattle.std.specs.Prelude.{ℕ, ◌+◌, ◌-◌, ◌^◌, ◌==◌, ◌&&◌, min, Bool, true, nat_lt, List, length, Result, Ok, Err}
use Rattle.rs_server.specs.declared.counted.Counted.{Counted}

abbrev pub inner_of : {T : Type 0} → Counted T → T
inner_of it = it.inner

abbrev pub failures_of : {T : Type 0} → Counted T → ℕ
failures_of it = it.failures

-- one more, up to the greatest number
abbrev pub next_count : ℕ → ℕ
next_count n = min (n + 1) (2 ^ 64 - 1)

-- a write that took nothing of what it was given, or an error
abbrev pub write_fails : {E : Type 0} → Result ℕ E → List ℕ → Bool
write_fails (Ok n) bytes = n == 0 && nat_lt 0 (length bytes)
write_fails (Err e) bytes = true
