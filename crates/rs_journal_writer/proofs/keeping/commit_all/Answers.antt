use Rattle.std.proofs.Common.{◌++◌}
use Rattle.rs_journal.specs.Restarting.{operations_of}
use Rattle.rs_journal_writer.proofs.Storing.{holds_rest, may_store, may_store_old, stores_more}
use Rattle.rs_journal_writer.proofs.keeping.commit_all.Goals as goal

pub returns-in-Err-clause-refused : goal.returns-in-Err-clause-refused
returns-in-Err-clause-refused g c = λ _ before stores. record {
  standing = stores.standing;
  formed = stores.formed;
  rests = c.in-Err.ensures.refused stores.standing stores.standing (holds_rest c.args.journal.now stores.standing stores.rests);
  same = stores.same;
}

pub returns-in-Err-clause-crash : goal.returns-in-Err-clause-crash
returns-in-Err-clause-crash g c = λ before stores.
    may_store_old c.push_all.new.journal before c.args.entries.now.items (record {
      standing = stores.standing;
      formed = stores.formed;
      rests = c.in-Err.ensures.refused stores.standing stores.standing (holds_rest c.args.journal.now stores.standing stores.rests);
      same = stores.same;
    })

pub returns-in-Ok-clause-kept : goal.returns-in-Ok-clause-kept
returns-in-Ok-clause-kept g c = λ before stores.
    let more = operations_of c.args.entries.now.items in
    stores_more c.commit.new.self stores.standing before c.args.entries.now.items stores.formed c.in_default.ensures.formed stores.same
    (c.in-Ok.ensures.done stores.standing (stores.standing ++ more) (c.in_default.ensures.pushed stores.standing stores.standing (holds_rest c.args.journal.now stores.standing stores.rests)))

pub returns-in-Ok-clause-crash : goal.returns-in-Ok-clause-crash
returns-in-Ok-clause-crash g c = λ before stores.
    let more = operations_of c.args.entries.now.items in
    may_store c.commit.new.self stores.standing before c.args.entries.now.items stores.formed c.in_default.ensures.formed stores.same
    (c.commit.ensures.crash stores.standing (stores.standing ++ more) (c.in_default.ensures.pushed stores.standing stores.standing (holds_rest c.args.journal.now stores.standing stores.rests)))

pub returns-in-Err-commit-clause-refused : goal.returns-in-Err-commit-clause-refused
returns-in-Err-commit-clause-refused g c = λ refused before stores.
    let more = operations_of c.args.entries.now.items in
    record {
      standing = stores.standing;
      formed = stores.formed;
      rests = c.in-Err-commit.ensures.refused refused stores.standing (stores.standing ++ more) (c.in_default.ensures.pushed stores.standing stores.standing (holds_rest c.args.journal.now stores.standing stores.rests));
      same = stores.same;
    }

pub returns-in-Err-commit-clause-crash : goal.returns-in-Err-commit-clause-crash
returns-in-Err-commit-clause-crash g c = λ before stores.
    let more = operations_of c.args.entries.now.items in
    may_store c.commit.new.self stores.standing before c.args.entries.now.items stores.formed c.in_default.ensures.formed stores.same
    (c.commit.ensures.crash stores.standing (stores.standing ++ more) (c.in_default.ensures.pushed stores.standing stores.standing (holds_rest c.args.journal.now stores.standing stores.rests)))
