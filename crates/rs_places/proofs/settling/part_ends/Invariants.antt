use Rattle.std.specs.Prelude.{◌≡◌, ◌+◌, ◌≤◌, ◌++◌, map, length, vec_capacity}
use Rattle.rs_places.proofs.settling.part_ends.Given as goal

abbrev pub invariant-loop-end : goal.invariant-loop-end
invariant-loop-end g l = record {
  lines : l.lines.items ≡ map (λ end. end.line) l.yielded;
  turns : l.turns.items ≡ map (λ end. end.turn) l.yielded;
  all : l.yielded ++ l.end-iterator.rest.items ≡ l.fn.ends.items;
  lines_fit : length l.lines.items + length l.end-iterator.rest.items ≤ vec_capacity l.lines;
  turns_fit : length l.turns.items + length l.end-iterator.rest.items ≤ vec_capacity l.turns;
}
