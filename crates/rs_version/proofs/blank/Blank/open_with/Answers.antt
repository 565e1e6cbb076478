use Rattle.std.proofs.Common.{◌≡◌, ◌++◌, List, drop, length, take, ap, sym, subst, ◌∙◌, arith}
use Rattle.std.specs.Prelude.{All}
use Rattle.rs_message.specs.declared.entry.Entry.{Entry}
use Rattle.rs_version.specs.First.{first_of}
use Rattle.rs_version.specs.Writer.{Written}
use Rattle.rs_version.proofs.First.{written_back}
use Rattle.rs_version.proofs.blank.Blank.open_with.Goals as goal

pub returns-clause-seats : goal.returns-clause-seats
returns-clause-seats g c =
    let seats = c.in-Ok.seats in
    let first = first_of c.args.given.items in
    let taught = c.teach-2.new.seats in
    let n = c.teach-2.ensures.0 in
    let m = ap length c.as_mut_slice.ensures.value in
    let len = seats.ok.0 in
    let whole : take seats.len (taught ++ drop (length taught) seats.items) ≡ taught = written_back seats.len taught seats.items (omega (arith, n, m, len)) (omega (arith, n, m, len)) in
    let told : c.tell.result ≡ first = c.tell.ensures.told ∙ ap (λ (w : Written). w.published) c.in-Ok-put_first.ensures in
    let A : List (List Entry) → Type 0 = λ l. All (λ (s : List Entry). s ≡ first) l in
    let T : List Entry → Type 0 = λ t. All (λ (s : List Entry). s ≡ t) taught in
    (c.in-Ok.ensures.seats.0, subst A (sym whole) (subst T told c.teach-2.ensures.1))
