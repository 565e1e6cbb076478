use Rattle.std.proofs.Common.{◌≡◌, ℕ, List, ◌∙◌, ap, subst, sym, true, false}
use Rattle.std.specs.FinSet as set
use Rattle.rs_window.specs.InUse.{in_use, IsDistinct}
use Rattle.rs_window.proofs.InUseLemmas.{standing, not_standing, removed_none, taken_set, taken_distinct}
use Rattle.rs_window.proofs.inbound.take_out.Goals as goal

pub returns-in-Some-clause-there : goal.returns-in-Some-clause-there
returns-in-Some-clause-there c =
    let found = c.in-Some.ensures.found in
    sym (subst (λ (xs : List ℕ). set.contains (in_use xs) c.args.id ≡ true) c.as_slice.ensures.value (standing c.as_slice.result.now c.in-Some.i c.args.id found.0 found.1))

pub returns-in-Some-clause-removed : goal.returns-in-Some-clause-removed
returns-in-Some-clause-removed c =
    let found = c.in-Some.ensures.found in
    ap in_use c.remove.ensures.items ∙ taken_set c.as_slice.result.now c.args.ids.now.items c.in-Some.i c.args.id c.as_slice.ensures.value found.0 found.1 c.requires

pub returns-in-Some-clause-distinct : goal.returns-in-Some-clause-distinct
returns-in-Some-clause-distinct c =
    let found = c.in-Some.ensures.found in
    subst IsDistinct (sym c.remove.ensures.items) (taken_distinct c.as_slice.result.now c.args.ids.now.items c.in-Some.i c.args.id c.as_slice.ensures.value found.0 found.1 c.requires)

pub returns-in-None-clause-there : goal.returns-in-None-clause-there
returns-in-None-clause-there c =
    sym (subst (λ (xs : List ℕ). set.contains (in_use xs) c.args.id ≡ false) c.as_slice.ensures.value (not_standing c.as_slice.result.now c.args.id c.in-None.ensures.none))

pub returns-in-None-clause-removed : goal.returns-in-None-clause-removed
returns-in-None-clause-removed c =
    sym (removed_none _ c.args.id (subst (λ (xs : List ℕ). set.contains (in_use xs) c.args.id ≡ false) c.as_slice.ensures.value (not_standing c.as_slice.result.now c.args.id c.in-None.ensures.none)))
