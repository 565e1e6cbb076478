use Rattle.std.proofs.Common.{◌≡◌, List, map, sym, ap, subst, ◌∙◌}
use Rattle.std.specs.Prelude.{IfOk}
use Rattle.rs_message.specs.declared.entry.Entry.{Entry}
use Rattle.rs_version.specs.First.{AreOwn}
use Rattle.rs_version.specs.Writer.{kept_of}
use Rattle.rs_places.specs.Store.{IsRunTo, new_gates}
use Rattle.rs_places.proofs.store.run_writer_of.Goals as goal

pub serve_run-requires-clause-own : goal.serve_run-requires-clause-own
serve_run-requires-clause-own g c κs within =
    let O : List Entry → Type 0 = λ l. AreOwn l in
    subst O (sym (ap (λ w. kept_of (g.S.StoreWriter.written w)) c.in-Ok.ensures.began)) c.requires.own

pub serve_run-requires-clause-gates : goal.serve_run-requires-clause-gates
serve_run-requires-clause-gates g c κs within =
    let first = kept_of (g.S.StoreWriter.written c.args.writer) in
    c.in-Ok.ensures.gates first c.requires.seats ∙ ap (λ w. new_gates (kept_of (g.S.StoreWriter.written w)) g.N.LineName.places) (sym c.in-Ok.ensures.began)

pub serve_run-requires-clause-turns : goal.serve_run-requires-clause-turns
serve_run-requires-clause-turns g c κs within = sym c.requires.queue.1 ∙ c.requires.turns

pub returns-in-Ok-clause-run : goal.returns-in-Ok-clause-run
returns-in-Ok-clause-run g c =
    let R : List Entry → Type 0 = λ l. IfOk c.serve_run.result (λ end. IsRunTo g.S.StoreWriter.most_held g.N.StoreName.limit g.N.LineName.places l (map g.T.Turn.connections c.args.turns.items)
    (map g.T.Turn.connections end.0.turns.items) (g.S.StoreWriter.written end.1) end.0.version end.0.changes end.0.cause) in
    subst R (ap (λ w. kept_of (g.S.StoreWriter.written w)) c.in-Ok.ensures.began) c.serve_run.ensures.run
