use Rattle.std.proofs.lemmas.Result.{err_from_is_err_and}
use Rattle.rs_journal_record.specs.Properties.{user_at}
use Rattle.rs_journal_record.proofs.Pairs.{read_step, read_fails, read_done}
use Rattle.rs_journal_record.proofs.properties.read_user.Goals as goal

pub returns-in_err-pair : goal.returns-in_err-pair
returns-in_err-pair c =
    let p = err_from_is_err_and c.from_residual-in_err-pair.result c.from_residual-in_err-pair.ensures.1 in
    rw (p.1, p.2) (read_fails (user_at c.args.rest.now) c.in_ok-count.count c.loop-i._i c.loop-i.pairs.items c.loop-i.rest c.in_err-pair.field-0.0 c.loop-i-test.true c.loop-i.invariant c.in_err-pair.ensures)

pub loop-i-preserved : goal.loop-i-preserved
loop-i-preserved c =
    read_step (user_at c.args.rest.now) c.in_ok-count.count c.loop-i._i c.loop-i.pairs.items c.push.new.self.items c.loop-i.rest c.read_pair.new.rest c.in_ok-pair.pair c.loop-i-test.true c.loop-i.invariant c.in_ok-pair.ensures c.in_ok-push.ensures.items

pub returns : goal.returns
returns c = read_done (user_at c.args.rest.now) c.in_ok-count.count c.loop-i._i c.loop-i.pairs.items c.loop-i.rest c.loop-i-test.false c.loop-i.invariant
