use denote.Exit.{no}
use denote.Param.Send.{arg_send, param_send}
use denote.Param.{copied, param}
use Rattle.std.proofs.Common.{◌≡◌, ◌≤◌, ℕ, ◌-◌, ◌^◌, List, length, map, sym, ap, subst, ◌∙◌, arith}
use Rattle.rs_intake.specs.Causes.{IsCause}
use Rattle.rs_intake.specs.declared.cause.Cause.{Cause}
use Rattle.rs_version.specs.Writer.{Written, kept_of}
use Rattle.rs_places.specs.Store.{IsRunTo}
use Rattle.rs_places_steps.proofs.Places.{few_ends}
use Rattle.rs_places.proofs.Sent.{gate_send}
use Rattle.rs_places.proofs.Whole.{ends_once, store_run}
use Rattle.rs_places.proofs.store.serve_run.Goals as goal

pub run_places-served-requires-send-G : goal.run_places-served-requires-send-G
run_places-served-requires-send-G g c κs within = param_send 1 _ (arg_send _ no _ (gate_send (param 0 g.row.N) (copied 3 g.row.H) g.N.LineName g.N.StoreName c.type_bounds.send-H))

pub settle_run-requires-clause-capacity : goal.settle_run-requires-clause-capacity
settle_run-requires-clause-capacity g c =
    let ends = c.in_ok-served.served.ends.items in
    let all : length ends ≤ length c.args.started.gates.items = few_ends _ _ _ _ ends c.in_ok-served.ensures in
    (omega (arith, all, c.requires.capacity.0), omega (arith, all, c.requires.capacity.1))

pub settle_run-requires-clause-once : goal.settle_run-requires-clause-once
settle_run-requires-clause-once g c =
    ends_once c.args.turns.items c.in_ok-served.served.ends.items g.T.Turn.connections (λ end. end.turn) (λ end. end.told) (λ end. end.line) g.N.StoreName.limit g.N.LineName.places
    (kept_of (g.S.StoreWriter.written c.args.started.writing.promise.began.value)) _ c.requires.gates (sym c.requires.turns) c.in_ok-served.ensures

pub returns-clause-run : goal.returns-clause-run
returns-clause-run g c =
    let first = kept_of (g.S.StoreWriter.written c.args.started.writing.promise.began.value) in
    let places = g.N.LineName.places in
    let ended = c.join-ended.result in
    let w : Written = g.S.StoreWriter.written ended.writer in
    let end = c.settle_run.result.0 in
    let cause = subst (λ (k : Cause). IsCause places (2 ^ 64 - 1) ended.received k) (sym c.settle_run.ensures.cause) c.join-ended.ensures.ended in
    let P : Written → Type 0 = λ v. IsRunTo g.S.StoreWriter.most_held g.N.StoreName.limit places first (map g.T.Turn.connections c.args.turns.items)
    (map g.T.Turn.connections end.turns.items) v end.version end.changes end.cause in
    subst P (sym c.settle_run.ensures.writer.0) (store_run c.args.turns.items c.in_ok-served.served.ends.items g.T.Turn.connections (λ end. end.turn) (λ end. end.told) (λ end. end.line) g.S.StoreWriter.most_held g.N.StoreName.limit places first
    end.turns.items _ w ended.received end.cause ended.ways.items end.version end.changes c.requires.own c.requires.gates (sym c.requires.turns)
    c.in_ok-served.ensures c.join-ended.ensures.written c.settle_run.ensures.legal c.settle_run.ensures.known c.settle_run.ensures.order c.settle_run.ensures.settled c.join-ended.ensures.placed cause c.settle_run.ensures.ended c.settle_run.ensures.version c.join-ended.ensures.few c.settle_run.ensures.turns)

pub returns-clause-idle : goal.returns-clause-idle
returns-clause-idle g c = c.settle_run.ensures.writer.1 ∙ c.join-ended.ensures.idle
