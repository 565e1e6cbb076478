use Rattle.std.proofs.Common.{◌≡◌, ◌++◌, map, ◌+◌, ◌≤◌, length}
use Rattle.std.specs.VecDeque.{deque_len, deque_capacity}
use Rattle.std.specs.Vec.Iter.{into_iter_items}
use Rattle.rs_window.specs.Waiting.{granted_at}
use Rattle.rs_window.proofs.waiting.append.Given as goal

abbrev pub invariant-loop-one : goal.invariant-loop-one
invariant-loop-one l = record {
  callable : (goal.iterator-loop-one).can_next l.one-iterator;
  finite : (goal.iterator-loop-one).is_finite l.one-iterator;
  joined : l.waiting.items ++ map (granted_at l.granted l.subscription) (into_iter_items l.one-iterator) ≡ l.initial.waiting.items ++ map (granted_at l.granted l.subscription) l.fn.found.items;
  capacity : deque_len l.waiting + length (into_iter_items l.one-iterator) ≤ deque_capacity l.waiting;
}
