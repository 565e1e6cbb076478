-- What a gathering writer shows.
use Rattle.std.specs.Prelude.{ℕ, List, Option}
use Rattle.std.specs.Io.KnownBytes.{append_known}
use Rattle.rs_tcp_sockets.specs.declared.gathered.Gathered.{Gathered}

-- the bytes that the inner writer holds, and then those that wait
abbrev pub contents_of : {W : Type 0} → (W → Option (List ℕ)) → Gathered W → Option (List ℕ)
contents_of contents it = append_known (contents it.inner) it.waiting.items

-- the bytes that wait
abbrev pub waiting_of : {W : Type 0} → Gathered W → List ℕ
waiting_of it = it.waiting.items

-- the writer behind
abbrev pub inner_of : {W : Type 0} → Gathered W → W
inner_of it = it.inner
