use Rattle.std.proofs.Common.{◌≡◌, ◌∙◌, [], ℕ, List, ap, map}
use Rattle.rs_message.specs.Values.{MessageValue}
use Rattle.rs_store.specs.Contents.{found_of}
use Rattle.rs_journal.specs.Retaining.{retained_after}
use Rattle.rs_journal_writer.proofs.Storing.{first_same}
use Rattle.rs_journal_writer.proofs.loading.load.Goals as goal

pub returns-in-Ok-list-clause-found : goal.returns-in-Ok-list-clause-found
returns-in-Ok-list-clause-found g c =
    let found = c.in-Ok.ensures.found in
    let retains : c.open.new.sink.messages.entries ≡ retained_after found.0 = found.1 [] c.new-retained.ensures in
    (found.0, found.2, found.3, c.in-Ok-list.ensures.list ∙ ap (λ (r : List (List ℕ × MessageValue)). map found_of r) retains)

pub returns-in-Ok-list-clause-stored : goal.returns-in-Ok-list-clause-stored
returns-in-Ok-list-clause-stored g c =
    let found = c.in-Ok.ensures.found in
    let retains : c.open.new.sink.messages.entries ≡ retained_after found.0 = found.1 [] c.new-retained.ensures in
    record {
      standing = found.0;
      formed = found.2;
      rests = found.4;
      same = first_same found.0 c.open.new.sink.messages.entries c.in-Ok-list.given.items c.in-Ok-list.ensures.list retains c.in-Ok-list.ensures.leave;
    }
