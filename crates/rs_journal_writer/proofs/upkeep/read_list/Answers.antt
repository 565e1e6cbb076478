use Rattle.std.proofs.Common.{◌≡◌, ◌∙◌, ℕ, [], List, ap, map}
use Rattle.rs_message.specs.Values.{MessageValue}
use Rattle.rs_store.specs.Contents.{found_of}
use Rattle.rs_journal.specs.Retaining.{retained_after}
use Rattle.rs_journal_writer.proofs.Shortening.{read_lists, stores_back}
use Rattle.rs_journal_writer.proofs.upkeep.read_list.Goals as goal

pub returns-in-Err-clause-stores : goal.returns-in-Err-clause-stores
returns-in-Err-clause-stores g c = λ before stores. stores_back c.args.journal.now c.read_again.new.self before c.read_again.ensures.rests stores

pub returns-in-Ok-list-clause-stores : goal.returns-in-Ok-list-clause-stores
returns-in-Ok-list-clause-stores g c = λ before stores. stores_back c.args.journal.now c.read_again.new.self before c.read_again.ensures.rests stores

pub returns-clause-stores : goal.returns-clause-stores
returns-clause-stores g c = λ before stores. stores_back c.args.journal.now c.read_again.new.self before c.read_again.ensures.rests stores

pub returns-in-Ok-list-clause-lists : goal.returns-in-Ok-list-clause-lists
returns-in-Ok-list-clause-lists g c = λ before stores.
    let read = c.in-Ok.ensures.read in
    let retains : c.read_again.new.sink.messages.entries ≡ retained_after read.0 = read.1 [] c.new-retained.ensures in
    read_lists c.args.journal.now c.read_again.new.self read.0 c.in-Ok-list.found.items before
    (c.in-Ok-list.ensures.list ∙ ap (λ (r : List (List ℕ × MessageValue)). map found_of r) retains) read.2 stores
