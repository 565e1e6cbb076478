use Rattle.std.proofs.Common.{◌≡◌, take}
use Rattle.rs_version.specs.Space.{HaveOrigins}
use Rattle.rs_journal_writer.proofs.keeping.copy_first.Given as goal

abbrev pub invariant-loop-index : goal.invariant-loop-index
invariant-loop-index l = (l.list.items ≡ take l.index l.changes.items) × HaveOrigins l.list.items
