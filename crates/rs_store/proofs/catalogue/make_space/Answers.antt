use Rattle.std.proofs.Common.{MatchOption, subst}
use Rattle.std.specs.Prelude.{Option}
use Rattle.rs_message.specs.declared.entry.Entry.{Entry}
use Rattle.rs_store.specs.Contents.{Accepts}
use Rattle.rs_store.proofs.Adding.{Precedes, precedes_ready}
use Rattle.rs_store.proofs.catalogue.make_space.Goals as goal

pub returns-in-Ok-clause-done : goal.returns-in-Ok-clause-done
returns-in-Ok-clause-done g c =
    let content = g.C.Catalogue.content c.args.catalogue.now in
    let sweep = c.in-Ok-Some.sweep in
    let P : Option Entry → Type 0 = λ o. MatchOption o (Accepts content c.args.entry.now) (λ s. Precedes content c.args.entry.now s) in
    precedes_ready content c.args.entry.now sweep (g.C.Catalogue.content c.append.new.catalogue) (subst P c.in-Ok-Some.field-0-is c.in-Ok-Some.ensures.next) c.in-Ok.ensures.done
