-- The filters so far were answered, each by its own list.
use Rattle.std.proofs.Common.{◌≡◌, ◌≤◌, ◌+◌, ◌++◌, List, length, vec_len, vec_capacity}
use Rattle.std.specs.Vec.Iter.{into_iter_items}
use Rattle.std.specs.List.{All}
use Rattle.rs_message.specs.declared.limits.TheConstants.{MAX_PACKET_SIZE}
use Rattle.rs_message.specs.declared.entry.Entry.{Entry}
use Rattle.rs_session.specs.Gate.{StandsAt}
use Rattle.rs_session.specs.Points.{point_at}
use Rattle.rs_session.specs.Table.{Grants}
use Rattle.rs_session.proofs.open.Open.subscribe.Given as goal

abbrev pub invariant-filters : goal.invariant-filters
invariant-filters g l = record {
  callable : (goal.iterator-filters g).can_next l.asked-iterator;
  finite : (goal.iterator-filters g).is_finite l.asked-iterator;
  granted : (seen : List Entry) → g.G.Gate.stands l.initial.gate seen → (list : List Entry) × g.G.Gate.stands l.gate list
      × (answered : List (List Entry)) × All (StandsAt g.G.Gate.stands g.G.Gate.mark (g.G.Gate.mark l.initial.gate)) answered
      × Grants l.now l.yielded l.subscription (point_at l.initial.self seen (g.G.Gate.mark l.initial.gate)) l.codes.items answered (point_at l.self list (g.G.Gate.mark l.gate));
  mark : g.G.Gate.mark l.gate ≡ g.G.Gate.mark l.initial.gate;
  pending : g.G.Gate.pending l.gate ≡ g.G.Gate.pending l.initial.gate;
  all : l.yielded ++ into_iter_items l.asked-iterator ≡ l.fn.s.filters;
  capacity : vec_len l.codes + length (into_iter_items l.asked-iterator) ≤ vec_capacity l.codes;
  few : vec_len l.codes + length (into_iter_items l.asked-iterator) ≤ MAX_PACKET_SIZE;
}
