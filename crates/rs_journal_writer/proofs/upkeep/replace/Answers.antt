use Rattle.rs_journal_writer.proofs.Shortening.{may_kept, may_replaced, replaced, stores_back}
use Rattle.rs_journal_writer.proofs.upkeep.replace.Goals as goal

pub returns-in-Err-clause-sure : goal.returns-in-Err-clause-sure
returns-in-Err-clause-sure g c = λ _ before stores _. stores_back c.args.journal.now c.push_anew.new.journal before c.in-Err.ensures.refused stores

pub returns-in-Err-clause-crash : goal.returns-in-Err-clause-crash
returns-in-Err-clause-crash g c = λ before stores _.
    may_kept c.push_anew.new.journal before (stores_back c.args.journal.now c.push_anew.new.journal before c.in-Err.ensures.refused stores)

pub returns-in-Ok-clause-sure : goal.returns-in-Ok-clause-sure
returns-in-Ok-clause-sure g c = λ _ before stores lists.
    replaced g.met.D.Disk.seen_may_stay c.args.journal.now c.push_anew.new.journal c.commit.new.self c.args.found.items before c.push_anew.ensures.crash c.in_default.ensures.pushed
    c.in_default.ensures.formed c.in-Ok.ensures.done stores lists

pub returns-in-Ok-clause-crash : goal.returns-in-Ok-clause-crash
returns-in-Ok-clause-crash g c = λ before stores lists.
    may_replaced g.met.D.Disk.seen_may_stay c.args.journal.now c.push_anew.new.journal c.commit.new.self c.args.found.items before c.push_anew.ensures.crash c.in_default.ensures.pushed
    c.in_default.ensures.formed c.commit.ensures.crash stores lists

pub returns-in-Err-commit-clause-sure : goal.returns-in-Err-commit-clause-sure
returns-in-Err-commit-clause-sure g c = λ refused before stores _.
    stores_back c.args.journal.now c.commit.new.self before
    (λ standing seen holds. c.in-Err-commit.ensures.refused refused standing _ (c.in_default.ensures.pushed standing seen holds)) stores

pub returns-in-Err-commit-clause-crash : goal.returns-in-Err-commit-clause-crash
returns-in-Err-commit-clause-crash g c = λ before stores lists.
    may_replaced g.met.D.Disk.seen_may_stay c.args.journal.now c.push_anew.new.journal c.commit.new.self c.args.found.items before c.push_anew.ensures.crash c.in_default.ensures.pushed
    c.in_default.ensures.formed c.commit.ensures.crash stores lists
