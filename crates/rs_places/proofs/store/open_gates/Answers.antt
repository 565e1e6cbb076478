use Rattle.std.proofs.Common.{◌≡◌, ◌∙◌, List, length, map, ap, sym, arith}
use Rattle.std.specs.Prelude.{Some, slice_get}
use Rattle.std.proofs.lemmas.Result.{IfOk-weaker}
use Rattle.std.proofs.lemmas.List.Elements.{recursion_from_All}
use Rattle.rs_intake_line.specs.Lines.{Line}
use Rattle.rs_message.specs.declared.entry.Entry.{Entry}
use Rattle.rs_places.specs.Gates.{handed_on}
use Rattle.rs_places.proofs.Whole.{first_is, gates_known}
use Rattle.rs_places.proofs.store.open_gates.Goals as goal

pub returns-then-len-clause-own : goal.returns-then-len-clause-own
returns-then-len-clause-own g c = IfOk-weaker c.own_gates.result _ _ (λ gates is same. is) c.own_gates.ensures

pub returns-then-len-clause-same : goal.returns-then-len-clause-same
returns-then-len-clause-same g c =
    let seats = c.args.seats.items in
    let lines = c.args.lines.items in
    let same : length seats ≡ length lines = omega (arith, c.len.ensures, c.len-2.ensures, c.if-len.true, c.args.seats.ok.0, c.args.lines.ok.0) in
    IfOk-weaker c.own_gates.result _ _ (λ gates is known all. is ∙ gates_known known seats lines same (recursion_from_All (λ seat. seat ≡ known) seats all)) c.own_gates.ensures

pub returns-clause-own : goal.returns-clause-own
returns-clause-own g c =
    IfOk-weaker c.sharing_gates.result _ _
    (λ gates is same. absurd (omega (arith, same, c.len.ensures, c.len-2.ensures, c.if-len.false, c.args.seats.ok.0, c.args.lines.ok.0)))
    c.sharing_gates.ensures

pub returns-clause-same : goal.returns-clause-same
returns-clause-same g c =
    let seats = c.args.seats.items in
    let lines = c.args.lines.items in
    let first : slice_get seats 0 ≡ Some c.in-Some.first.now = ap (λ (l : List (List Entry)). slice_get l 0) (sym c.deref.ensures.value) ∙ sym c.in-Some.ensures.value in
    IfOk-weaker c.sharing_gates.result _ _
    (λ gates is known all.
    let told = c.told-known.ensures.told ∙ first_is known c.in-Some.first.now seats first (recursion_from_All (λ seat. seat ≡ known) seats all) in
    is ∙ ap (λ (k : List Entry). map (λ (line : Line). handed_on k line) lines) told)
    c.sharing_gates.ensures
