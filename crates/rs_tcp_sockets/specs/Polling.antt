-- What a reader that polls shows.
use Rattle.std.specs.Prelude.{ℕ, List, Option}
use Rattle.rs_tcp_sockets.specs.declared.polling.Polling.{Polling}

-- the reader behind
abbrev pub inner_of : {R : Type 0} → Polling R → R
inner_of it = it.inner

-- the bytes that it has left
abbrev pub left_of : {R : Type 0} → (R → Option (List ℕ)) → Polling R → Option (List ℕ)
left_of remaining it = remaining it.inner
