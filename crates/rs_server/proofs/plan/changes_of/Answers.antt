use Rattle.std.proofs.Common.{◌≡◌, ◌+◌, ◌<◌, ◌++◌, ◌∷◌, [], ◌∙◌, ℕ, List, false, length, length-append, take, drop, get_or, sym, ap, subst, arith}
use Rattle.std.proofs.lemmas.List.{get_or-drop, length-drop, length-take-le, take_more}
use Rattle.std.proofs.lemmas.List.Elements.{All-nil, All-cons, All-append}
use Rattle.std.specs.List.{All}
use Rattle.rs_message.specs.declared.entry.Operation.{Operation}
use Rattle.rs_message.specs.Messages.{is_sweep}
use Rattle.rs_session.specs.Pending.{AreChanges, IsChange}
use Rattle.rs_session.specs.Points.{Given}
use Rattle.rs_server.proofs.Planning.{first_changes, one_change_more}
use Rattle.rs_server.proofs.plan.changes_of.Goals as goal

pub made-init : goal.made-init
made-init c =
    let none : c.in-Ok.changes.items ≡ [] = c.in-Ok.ensures.items in
    record {
      changes = subst (λ (l : List Operation). AreChanges (take (length l) (drop c.args.from c.args.planned.now.items)) l) (sym none) tt;
      none_sweeps = subst (All (λ operation. is_sweep operation ≡ false)) (sym none) (All-nil (λ operation. is_sweep operation ≡ false));
      index = omega (arith, ap (λ (l : List Operation). length l) none);
      count = omega (arith, c.in-Ok.ensures.len, ap (λ (l : List Operation). length l) none);
      capacity = omega (arith, c.in-Ok.ensures.capacity, c.len.ensures, c.len-i-end.ensures);
    }

pub returns-in_default-copy_change-clause-changes : goal.returns-in_default-copy_change-clause-changes
returns-in_default-copy_change-clause-changes c = first_changes (drop c.args.from c.args.planned.now.items) c.made.changes.items c.made.invariant.changes

pub returns-in_default-copy_change-clause-none_sweeps : goal.returns-in_default-copy_change-clause-none_sweeps
returns-in_default-copy_change-clause-none_sweeps c = c.made.invariant.none_sweeps

pub push_reserved-requires : goal.push_reserved-requires
push_reserved-requires c = omega (arith, c.made.invariant.index, c.made.invariant.count, c.made.invariant.capacity, c.made-test.true)

pub made-preserved : goal.made-preserved
made-preserved c =
    let behind = drop c.args.from c.args.planned.now.items in
    let changes = c.made.changes.items in
    let n : ℕ = length changes in
    let next : Given = c.index-next.result.now in
    let before : n < length behind = omega (arith, length-drop c.args.from c.args.planned.now.items, c.made.invariant.index, c.made-test.true, c.len-i-end.ensures, c.args.planned.now.ok.0) in
    let is : IsChange next c.in-Some.change = c.in-Some.ensures.change in
    let there : get_or behind n next ≡ next =
    get_or-drop c.args.from c.args.planned.now.items n next ∙ ap (λ (i : ℕ). get_or c.args.planned.now.items i next) c.made.invariant.index ∙ sym c.index-next.ensures in
    let grown : length c.push_reserved.new.self.items ≡ n + 1 = omega (arith, ap (λ (l : List Operation). length l) c.push_reserved.ensures.items, length-append changes (c.in-Some.change ∷ [])) in
    let more : take (length c.push_reserved.new.self.items) behind ≡ take n behind ++ next ∷ [] =
    ap (λ (k : ℕ). take k behind) grown ∙ take_more behind n next before ∙ ap (λ (x : Given). take n behind ++ x ∷ []) there in
    record {
      changes = subst (λ (l : List Given). AreChanges l c.push_reserved.new.self.items) (sym more)
          (subst (AreChanges (take n behind ++ next ∷ [])) (sym c.push_reserved.ensures.items)
          (one_change_more (take n behind) changes next c.in-Some.change (length-take-le n behind (omega (arith, before))) c.made.invariant.changes is));
      none_sweeps = subst (All (λ operation. is_sweep operation ≡ false)) (sym c.push_reserved.ensures.items)
          (All-append (λ operation. is_sweep operation ≡ false) changes (c.in-Some.change ∷ []) c.made.invariant.none_sweeps (All-cons (λ operation. is_sweep operation ≡ false) c.in-Some.change [] c.in-Some.ensures.none_sweeps (All-nil (λ operation. is_sweep operation ≡ false))));
      index = omega (arith, grown, c.made.invariant.index);
      count = omega (arith, grown, c.push_reserved.ensures.len, c.made.invariant.count);
      capacity = omega (arith, c.made.invariant.capacity, c.push_reserved.ensures.capacity);
    }

pub returns-clause-changes : goal.returns-clause-changes
returns-clause-changes c = first_changes (drop c.args.from c.args.planned.now.items) c.made.changes.items c.made.invariant.changes

pub returns-clause-none_sweeps : goal.returns-clause-none_sweeps
returns-clause-none_sweeps c = c.made.invariant.none_sweeps
