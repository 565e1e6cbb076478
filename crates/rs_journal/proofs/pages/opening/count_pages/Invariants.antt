use Rattle.std.proofs.Common.{◌≡◌, ◌+◌, ◌-◌, ◌≤◌, IsTrue}
use Rattle.sqlite_wal.specs.State.{Keeps}
use Rattle.sqlite_pager.specs.Pager.{state, visible}
use Rattle.rs_journal.proofs.OpenLemmas.{IsCounted}
use Rattle.rs_journal.proofs.pages.opening.count_pages.Given as goal

abbrev pub invariant-loop-at : goal.invariant-loop-at
invariant-loop-at g l = record {
  keeps : Keeps (state l.fn.pager) (state l.pager);
  ready : (state l.pager).is_ready ≡ (state l.fn.pager).is_ready;
  same : visible l.pager ≡ visible l.fn.pager;
  low : l.count + 1 ≤ l.at;
  counted : IsTrue (state l.pager).is_clean → IsCounted (visible l.fn.pager) l.first l.count (l.at - 1);
}
