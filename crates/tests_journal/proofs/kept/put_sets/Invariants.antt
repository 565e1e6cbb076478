use Rattle.std.proofs.Common.{◌≡◌, []}
use Rattle.tests_journal.proofs.kept.put_sets.Given as goal

-- nothing is made ready
abbrev pub invariant-loop-n : goal.invariant-loop-n
invariant-loop-n g l = l.writer.ready ≡ []
