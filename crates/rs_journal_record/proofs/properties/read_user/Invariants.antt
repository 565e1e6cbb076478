use Rattle.std.proofs.Common.{◌≡◌, ◌-◌}
use Rattle.rs_journal_record.specs.Properties.{user_at, pairs_at}
use Rattle.rs_journal_record.proofs.Pairs.{with_front}
use Rattle.rs_journal_record.proofs.properties.read_user.Given as goal

abbrev pub invariant-loop-i : goal.invariant-loop-i
invariant-loop-i l = user_at l.fn.rest ≡ with_front l.pairs.items (pairs_at (l.count - l._i) l.rest)
