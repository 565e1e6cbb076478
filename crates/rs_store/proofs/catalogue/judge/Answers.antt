use Rattle.std.proofs.Common.{subst, arith}
use Rattle.rs_store.specs.Contents.{RefusedBy}
use Rattle.rs_store.specs.declared.fault.Refusal.TheVariants.{Full, Stale}
use Rattle.rs_store.proofs.Adding.{may_not_come, precedes}
use Rattle.rs_store.proofs.Standing.{legal_more}
use Rattle.rs_store.proofs.catalogue.judge.Goals as goal

pub returns-in-Ok-clause-stands : goal.returns-in-Ok-clause-stands
returns-in-Ok-clause-stands g c = λ history s. legal_more (g.C.Catalogue.content c.args.catalogue.now) history c.args.entry.now s c.in-Ok.ensures

pub returns-in-Some-clause-stands : goal.returns-in-Some-clause-stands
returns-in-Some-clause-stands g c = λ history s.
    precedes (g.C.Catalogue.content c.args.catalogue.now) history c.args.entry.now c.in-Some.sweep s (omega (arith, c.place-place.ensures.value, c.place-place.ensures.small)) c.in-Some.ensures.some

pub returns-in-None-clause-stands : goal.returns-in-None-clause-stands
returns-in-None-clause-stands g c = λ history s.
    let content = g.C.Catalogue.content c.args.catalogue.now in
    let full = subst (RefusedBy content c.args.entry.now) c.in-Err-Full.field-0-is c.in-Err-Full.ensures in
    may_not_come content history c.args.entry.now Full s (omega (arith, c.serial-serial.ensures.value, c.serial-serial.ensures.some)) (full, c.in-None.ensures.none)

pub returns-in-Err-Stale-clause-stands : goal.returns-in-Err-Stale-clause-stands
returns-in-Err-Stale-clause-stands g c = λ history s.
    let content = g.C.Catalogue.content c.args.catalogue.now in
    may_not_come content history c.args.entry.now Stale s (omega (arith, c.serial-serial.ensures.value, c.serial-serial.ensures.some)) (subst (RefusedBy content c.args.entry.now) c.in-Err-Stale.field-0-is c.in-Err-Stale.ensures)
