use Rattle.std.proofs.Common.{◌≡◌, ◌∙◌, ℕ, List, Option, None, Some, ap, codes, sym, unwrap_or}
use Rattle.clap.specs.Words.{first_of, found_of, rows_of}
use Rattle.clap.proofs.WalkLemmas.{first_value-rows}
use Rattle.rs_program.proofs.words.values.policy_given.Goals as goal

-- the text that was given, or that of the first policy
or_first : Option (List ℕ) → List ℕ
or_first text = unwrap_or text (codes "always")

pub returns-in-None : goal.returns-in-None
unfolding or_first
returns-in-None c =
    let none : first_of (codes "sync") (rows_of (found_of c.args.found.now)) ≡ None = sym (first_value-rows (found_of c.args.found.now) (codes "sync")) ∙ sym c.in-None.ensures in
    ap or_first none

pub returns-in_ok-policy-in-Some : goal.returns-in_ok-policy-in-Some
unfolding or_first
returns-in_ok-policy-in-Some c =
    let some : first_of (codes "sync") (rows_of (found_of c.args.found.now)) ≡ Some c.in-Some.text.now = sym (c.in-Some.ensures ∙ first_value-rows (found_of c.args.found.now) (codes "sync")) in
    ap or_first some ∙ c.in_ok-policy-in-Some.ensures
