use Rattle.std.proofs.Common.{◌≡◌, ℕ, List, map, sym, ap, subst, ◌∙◌, append-nil}
use Rattle.std.specs.List.{All}
use Rattle.std.specs.Prelude.{IfOk}
use Rattle.rs_journal.specs.Journals.{may_leave}
use Rattle.rs_message.specs.declared.entry.Entry.{Entry}
use Rattle.rs_version.specs.First.{AreOwn, first_of}
use Rattle.rs_version.specs.Writer.{kept_of}
use Rattle.rs_version.proofs.First.{own_sets}
use Rattle.rs_places.specs.Kept.{IsKeptRun}
use Rattle.rs_places.proofs.kept.run_kept_named.Goals as goal

pub run_kept-requires-clause-own : goal.run_kept-requires-clause-own
run_kept-requires-clause-own g c κs within =
    let first = first_of c.args.given.items in
    let kept : kept_of c.in-Ok.writer.written ≡ first = ap kept_of c.in-Ok.ensures.written ∙ append-nil first in
    let O : List Entry → Type 0 = λ l. AreOwn l in
    subst O (sym kept) (own_sets 0 c.args.given.items)

pub run_kept-requires-clause-seats : goal.run_kept-requires-clause-seats
run_kept-requires-clause-seats g c κs within =
    let first = first_of c.args.given.items in
    let kept : kept_of c.in-Ok.writer.written ≡ first = ap kept_of c.in-Ok.ensures.written ∙ append-nil first in
    let S : List Entry → Type 0 = λ l. All (λ (seat : List Entry). seat ≡ l) c.in-Ok.seats.items in
    subst S (sym kept) c.in-Ok.ensures.seats

pub returns-in-Ok : goal.returns-in-Ok
returns-in-Ok g c =
    let first = first_of c.args.given.items in
    let kept : kept_of c.in-Ok.writer.written ≡ first = ap kept_of c.in-Ok.ensures.written ∙ append-nil first in
    let R : ℕ → ℕ → List Entry → Type 0 = λ limit places l. IfOk c.run_kept.result (λ kept. IsKeptRun limit places l (map g.T.Turn.connections c.args.turns.items)
    (map g.T.Turn.connections kept.end.turns.items) (may_leave kept.journal) kept.end.version kept.end.changes kept.end.cause) in
    subst (λ l. R c.args.blank.limit c.args.queue.places l) kept
    (subst (λ n. R c.args.blank.limit n (kept_of c.in-Ok.writer.written)) (sym c.requires.queue.1)
    (subst (λ n. R n g.N.LineName.places (kept_of c.in-Ok.writer.written)) (sym c.requires.store.1) c.run_kept.ensures))
