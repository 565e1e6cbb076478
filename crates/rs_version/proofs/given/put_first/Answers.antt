use Rattle.std.proofs.Common.{◌≡◌, ◌+◌, ◌∷◌, ◌++◌, [], List, sym, ap, subst, ◌∙◌, append_assoc, length-append, arith}
use Rattle.rs_message.specs.Values.{OriginValue}
use Rattle.rs_message.specs.declared.entry.Entry.{Entry}
use Rattle.rs_message.specs.declared.entry.Operation.TheVariants.{Set}
use Rattle.rs_store.specs.History.{IsLegal, extended}
use Rattle.rs_store.proofs.Adding.{named}
use Rattle.rs_version.specs.First.{first_of, own_set}
use Rattle.rs_version.specs.Writer.{Written, shows}
use Rattle.rs_version.proofs.First.{next_legal, sets_push}
use Rattle.rs_version.proofs.given.put_first.Goals as goal

pub put_legal-requires-clause-legal : goal.put_legal-requires-clause-legal
put_legal-requires-clause-legal g c =
    let i = c.loop-found.invariant in
    let limit = g.N.StoreName.limit in
    let number = c.loop-found.serial + 1 in
    let found = c.in-Some.found in
    let own : OriginValue = record { place = 0; serial = number } in
    let origin : c.in-Some-of_writer.origin ≡ own = named number c.in-Some-of_writer.origin own (omega arith) (sym c.in-Some-of_writer.is ∙ c.of_writer.ensures) in
    let entry : Entry = record { origin = c.in-Some-of_writer.origin; operation = Set found } in
    let is : entry ≡ own_set number found = ap (λ (o : OriginValue). let e : Entry = record { origin = o; operation = Set found } in e) origin in
    let published : c.loop-found.writer.published ≡ first_of c.loop-found.yielded = ap (λ (w : Written). w.published) i.0 in
    let whole = ap (λ l. c.loop-found.yielded ++ l) (sym c.in-Some.ensures.steps.0) ∙ i.2 in
    let small = c.requires.few.1 in
    let count = i.1 in
    let legal = next_legal limit c.loop-found.yielded c.next.new.self.rest.items c.args.given.items found number whole c.requires.few.0 (omega (arith, small)) (omega (arith, count)) in
    let P : List Entry → Type 0 = λ l. IsLegal limit (extended l entry) in
    let Q : Entry → Type 0 = λ e. IsLegal limit (extended (first_of c.loop-found.yielded) e) in
    subst P (sym published) (subst Q (sym is) legal)

pub loop-found-preserved : goal.loop-found-preserved
loop-found-preserved g c =
    let i = c.loop-found.invariant in
    let number = c.loop-found.serial + 1 in
    let found = c.in-Some.found in
    let yielded = c.loop-found.yielded in
    let own : OriginValue = record { place = 0; serial = number } in
    let origin : c.in-Some-of_writer.origin ≡ own = named number c.in-Some-of_writer.origin own (omega arith) (sym c.in-Some-of_writer.is ∙ c.of_writer.ensures) in
    let entry : Entry = record { origin = c.in-Some-of_writer.origin; operation = Set found } in
    let is : entry ≡ own_set number found = ap (λ (o : OriginValue). let e : Entry = record { origin = o; operation = Set found } in e) origin in
    let published : c.loop-found.writer.published ≡ first_of yielded = ap (λ (w : Written). w.published) i.0 in
    let count = i.1 in
    let more : extended (first_of yielded) (own_set number found) ≡ first_of (yielded ++ found ∷ []) = sets_push 0 number yielded found (omega (arith, count)) in
    let n = length-append yielded (found ∷ []) in (
      c.in_ok-put_legal.ensures ∙ (ap (λ (l : List Entry). shows (extended l entry)) published ∙ (ap (λ (e : Entry). shows (extended (first_of yielded) e)) is ∙ ap shows more)),
      omega (arith, count, n),
      append_assoc yielded (found ∷ []) c.next.new.self.rest.items ∙ (ap (λ l. yielded ++ l) (sym c.in-Some.ensures.steps.0) ∙ i.2),
    )
