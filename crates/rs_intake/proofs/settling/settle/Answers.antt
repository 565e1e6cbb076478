use Rattle.std.proofs.Common.{ℕ, List, sym, subst, ◌∙◌}
use Rattle.rs_message.specs.declared.entry.Entry.{Entry}
use Rattle.rs_intake.specs.Causes.{HaveEnded}
use Rattle.rs_intake.specs.Settling.{AreTaken, AreTakenInOrder, BalancesWith, EachOnce}
use Rattle.rs_intake.proofs.Sums.{in_order, settled, some_ends, taken_by_ends}
use Rattle.rs_intake.proofs.settling.settle.Goals as goal

pub returns-in-Some-clause-settled : goal.returns-in-Some-clause-settled
returns-in-Some-clause-settled g c =
    let all = c.in-Some.ensures in
    let ends = c.args.ends.items in
    let taken = c.args.ended.now.received.entries in
    let balance = c.join_all.ensures.balance (some_ends _ ends c.places.ensures.1 all.2) in
    let E : ℕ → Type 0 = λ n. EachOnce n ends in
    let each = subst E c.places.ensures.0 all.2 in
    let B : List Entry → Type 0 = λ l. BalancesWith g.N.LineName.places l c.join_all.new.taken.ends balance.0 ends in
    settled _ taken _ balance.0 ends (subst B c.join_all.ensures.same.0 balance.1) each (sym all.1 ∙ (all.0 ∙ c.args.ended.now.counted))

pub returns-in-Some-clause-order : goal.returns-in-Some-clause-order
returns-in-Some-clause-order g c =
    let O : List Entry → Type 0 = λ l. AreTakenInOrder l c.args.ends.items in
    subst O c.join_all.ensures.same.0 (in_order _ _ _ c.args.ends.items c.join_all.ensures.balance)

pub returns-in-None-clause-order : goal.returns-in-None-clause-order
returns-in-None-clause-order g c =
    let O : List Entry → Type 0 = λ l. AreTakenInOrder l c.args.ends.items in
    subst O c.join_all.ensures.same.0 (in_order _ _ _ c.args.ends.items c.join_all.ensures.balance)

pub returns-in-Some-clause-ended : goal.returns-in-Some-clause-ended
returns-in-Some-clause-ended g c = λ all.
    let A : List Entry → Type 0 = λ l. AreTaken l c.args.ends.items in
    let E : List ℕ → Type 0 = λ l. HaveEnded g.N.LineName.places l in
    subst A c.join_all.ensures.same.0 (taken_by_ends _ _ _ c.args.ends.items c.join_all.ensures.balance (subst E (sym c.join_all.ensures.same.1) all))

pub returns-in-None-clause-ended : goal.returns-in-None-clause-ended
returns-in-None-clause-ended g c = λ all.
    let A : List Entry → Type 0 = λ l. AreTaken l c.args.ends.items in
    let E : List ℕ → Type 0 = λ l. HaveEnded g.N.LineName.places l in
    subst A c.join_all.ensures.same.0 (taken_by_ends _ _ _ c.args.ends.items c.join_all.ensures.balance (subst E (sym c.join_all.ensures.same.1) all))
