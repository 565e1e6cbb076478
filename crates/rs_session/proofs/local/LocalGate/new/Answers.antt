use Rattle.std.proofs.Common.{◌≡◌, [], subst, sym}
use Rattle.rs_store.specs.declared.content.Content.{Content}
use Rattle.rs_store.specs.Contents.{empty}
use Rattle.rs_store.specs.History.{Stands}
use Rattle.rs_store.proofs.Standing.{stands_empty}
use Rattle.rs_session.proofs.local.LocalGate.new.Goals as goal

pub returns-clause-list : goal.returns-clause-list
returns-clause-list g c =
    let e : g.C.Catalogue.content c.in_ok-new.field-0 ≡ empty c.args.limit = c.in_ok-new.ensures in
    subst (λ (x : Content). Stands x []) (sym e) (stands_empty c.args.limit)
