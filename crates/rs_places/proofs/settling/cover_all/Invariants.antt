use Rattle.std.specs.Prelude.{◌≡◌, All, take}
use mathlib.Core.List.{IsPrefix}
use Rattle.rs_version.specs.Writer.{kept_of}
use Rattle.rs_places.proofs.settling.cover_all.Given as goal

abbrev pub invariant-loop-end : goal.invariant-loop-end
invariant-loop-end g l = (g.S.StoreWriter.written l.writer ≡ g.S.StoreWriter.written l.fn.writer)
    × (g.S.StoreWriter.ready l.writer ≡ g.S.StoreWriter.ready l.fn.writer)
    × All (λ end. IsPrefix end.told (kept_of (g.S.StoreWriter.written l.fn.writer))) (take l.end-index l.ends.items)
