use Rattle.std.proofs.Common.{◌≡◌, ◌≢◌, ◌==◌, arith, true, false, refl, vec_len, length}
use Rattle.std.proofs.lemmas.Bool.Decides.{nat_tests}
use Rattle.rs_tree_branch.proofs.Clearing.{retained_last, retained_left, retained_missing}
use Rattle.rs_tree_branch.proofs.branch.Branch.clear_retained.Goals as goal

pub returns-then-is_none : goal.returns-then-is_none
returns-then-is_none c = rw (← c.self.view_is) (retained_missing c.self.inside.retained c.self.inside.children.items c.self.invariant c.if-is_none.ensures, refl)

pub returns-then-is_empty : goal.returns-then-is_empty
returns-then-is_empty c =
    let tested : true ≡ (vec_len c.self.inside.children == 0) = c.if-is_empty.ensures in
    let zero : vec_len c.self.inside.children ≡ 0 = grind (arith, nat_tests, tested) in
    let none : length c.self.inside.children.items ≡ 0 = omega arith in
    rw (← c.self.view_is) (retained_last c.self.inside.retained c.self.inside.children.items c.if-is_none.ensures none)

pub returns : goal.returns
returns c =
    let tested : false ≡ (vec_len c.self.inside.children == 0) = c.if-is_empty.ensures in
    let some : vec_len c.self.inside.children ≢ 0 = (λ h. grind (arith, nat_tests, tested, h)) in
    let more : length c.self.inside.children.items ≢ 0 = (λ h. some (omega (arith, h))) in
    rw (← c.self.view_is) (retained_left c.self.inside.retained c.self.inside.children.items c.self.invariant c.if-is_none.ensures more)
