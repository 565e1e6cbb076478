use denote.Exit.{no}
use denote.Param.Send.{arg_send, param_send}
use denote.Param.{copied, param}
use Rattle.std.proofs.Common.{◌≡◌, ℕ, List, map, sym, ap, subst, ◌∙◌, append-nil}
use Rattle.std.specs.List.{All}
use Rattle.rs_message.specs.declared.entry.Entry.{Entry}
use Rattle.rs_version.specs.First.{AreOwn, first_of}
use Rattle.rs_version.specs.Writer.{kept_of}
use Rattle.rs_version.proofs.First.{own_sets}
use Rattle.rs_version.proofs.Sent.{writer_send}
use Rattle.rs_places.specs.Store.{IsStoreRun}
use Rattle.rs_places.proofs.store.run_named.Goals as goal

pub run_writer_of-requires-clause-own : goal.run_writer_of-requires-clause-own
run_writer_of-requires-clause-own g c κs within =
    let first = first_of c.args.given.items in
    let kept : kept_of c.in_ok-writer.writer ≡ first = ap kept_of c.in_ok-writer.ensures.writer ∙ append-nil first in
    let O : List Entry → Type 0 = λ l. AreOwn l in
    subst O (sym kept) (own_sets 0 c.args.given.items)

pub run_writer_of-requires-clause-seats : goal.run_writer_of-requires-clause-seats
run_writer_of-requires-clause-seats g c κs within =
    let first = first_of c.args.given.items in
    let kept : kept_of c.in_ok-writer.writer ≡ first = ap kept_of c.in_ok-writer.ensures.writer ∙ append-nil first in
    let S : List Entry → Type 0 = λ l. All (λ (seat : List Entry). seat ≡ l) c.in_ok-writer.seats.items in
    subst S (sym kept) c.in_ok-writer.ensures.seats.1

pub run_writer_of-requires-send-S : goal.run_writer_of-requires-send-S
run_writer_of-requires-send-S g c κs within = param_send 1 _ (arg_send _ no _ (writer_send (param 0 g.row.N) g.N.StoreName (copied 2 g.row.H) c.type_bounds.send-H))

pub returns-in-Ok : goal.returns-in-Ok
returns-in-Ok g c =
    let first = first_of c.args.given.items in
    let kept : kept_of c.in_ok-writer.writer ≡ first = ap kept_of c.in_ok-writer.ensures.writer ∙ append-nil first in
    let end = c.in-Ok.end in
    let R : ℕ → ℕ → List Entry → Type 0 = λ limit places l. IsStoreRun 1 limit places l (map g.T.Turn.connections c.args.turns.items) (map g.T.Turn.connections end.turns.items) end.version end.changes end.cause in
    subst (λ l. R c.args.blank.limit c.args.queue.places l) kept
    (subst (λ n. R c.args.blank.limit n (kept_of c.in_ok-writer.writer)) (sym c.requires.queue.1)
    (subst (λ n. R n g.N.LineName.places (kept_of c.in_ok-writer.writer)) (sym c.requires.store.1) c.in-Ok.ensures.run.run))
