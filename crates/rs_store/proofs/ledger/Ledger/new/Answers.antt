use Rattle.std.proofs.Common.{ℕ, List, ap}
use Rattle.rs_store.specs.Ledgers.{LedgerValue}
use Rattle.rs_store.proofs.ledger.Ledger.new.Goals as goal

pub returns : goal.returns
returns c =
    let all = c.in_ok-vec.ensures.items_if_clones_equal (λ y h. h) in
    let ledger : List ℕ → LedgerValue = λ s. record { limit = c.args.limit; serials = s; version = 0 } in
    ap ledger all
