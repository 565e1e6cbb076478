use Rattle.std.proofs.Common.{subst}
use Rattle.rs_store.specs.History.{MayNotCome}
use Rattle.rs_store.specs.declared.fault.Refusal.{Refusal}
use Rattle.rs_version.specs.Catalogues.{content_of}
use Rattle.rs_version.proofs.writer.judge_on.Goals as goal

pub returns-in-Ok-clause-stands : goal.returns-in-Ok-clause-stands
returns-in-Ok-clause-stands c = λ history s. c.in-Ok.ensures.stands history s

pub returns-in-Err-Stale-clause-stands : goal.returns-in-Err-Stale-clause-stands
returns-in-Err-Stale-clause-stands c = λ history s.
    let P : Refusal → Type 0 = λ r. MayNotCome (content_of c.args.catalogue.now).limit history c.args.entry.now r in
    subst P c.in-Err-Stale.field-0-is (c.in-Err-Stale.ensures.stands history s)

pub returns-in-Err-Full-clause-stands : goal.returns-in-Err-Full-clause-stands
returns-in-Err-Full-clause-stands c = λ history s.
    let P : Refusal → Type 0 = λ r. MayNotCome (content_of c.args.catalogue.now).limit history c.args.entry.now r in
    subst P c.in-Err-Full.field-0-is (c.in-Err-Full.ensures.stands history s)
