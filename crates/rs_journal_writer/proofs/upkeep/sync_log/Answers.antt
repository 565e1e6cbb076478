use Rattle.std.proofs.Common.{List}
use Rattle.rs_message.specs.declared.entry.Operation.{Operation}
use Rattle.rs_journal.specs.Journals.{Holds, Rests}
use Rattle.rs_journal_writer.specs.State.{Stores}
use Rattle.rs_journal_writer.proofs.Shortening.{may_synced, stores_back, stores_synced, sure_case}
use Rattle.rs_journal_writer.proofs.upkeep.sync_log.Goals as goal

pub returns-clause-sure : goal.returns-clause-sure
returns-clause-sure g c = λ sure before stores.
    let it = c.args.journal.now in
    let it' = c.sync-synced.new.self in
    sure_case c.sync-synced.result
    ((standing seen : List Operation) → Holds it standing seen → Rests it' seen)
    ((standing seen : List Operation) → Holds it standing seen → Rests it' standing)
    (Stores it' before) c.sync-synced.ensures.done c.sync-synced.ensures.refused
    (λ done. stores_synced it it' before done stores) (λ refused. stores_back it it' before refused stores) sure

pub returns-clause-crash : goal.returns-clause-crash
returns-clause-crash g c = λ before stores. may_synced c.args.journal.now c.sync-synced.new.self before c.sync-synced.ensures.crash stores
