use Rattle.std.proofs.Common.{◌≡◌, ◌≤◌, List, drop, length, nat_eq, true, arith, sym, subst}
use Rattle.std.proofs.lemmas.List.{drop_all}
use Rattle.std.proofs.lemmas.Bool.Decides.{nat_tests}
use Rattle.rs_intake_queue.specs.Ends.{Closed}
use Rattle.rs_intake.proofs.Ordered.{AreFrom, once_in_order}
use Rattle.rs_intake.proofs.settling.are_in_order.Goals as goal

pub returns : goal.returns
returns g c = λ (is : nat_eq c.loop-end.last c.args.places ≡ true).
    let ends = c.args.ends.now.items in
    let index = c.loop-end.end-index in
    let past : length ends ≤ index = omega arith in
    let A : List Closed → Type 0 = λ rest. AreFrom index rest in
    let left : A (drop index ends) = subst A (sym (drop_all index ends past)) tt in
    let last : c.loop-end.last ≡ c.args.places = grind (arith, nat_tests, is) in
    once_in_order c.args.places ends (c.loop-end.invariant.1 left) (omega (arith, last, c.loop-end.invariant.0))
