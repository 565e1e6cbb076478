use Rattle.rs_intake.proofs.settling.all_sent.Goals as goal

pub returns-then-not-is_each_once : goal.returns-then-not-is_each_once
returns-then-not-is_each_once g c = λ both. c.if-not-is_each_once.ensures both.0

pub returns : goal.returns
returns g c = (c.if-sum-taken.false, c.in_ok-sum.ensures, c.if-not-is_each_once.ensures)
