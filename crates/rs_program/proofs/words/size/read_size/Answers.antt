use Rattle.std.proofs.Common.{◌≡◌, ◌∙◌, ◌*◌, ◌<◌, ◌^◌, sym, subst, arith, ap, Option, IfNone, ℕ}
use Rattle.rs_program.specs.CommandLine.{IsSize}
use Rattle.rs_program.proofs.Sizes.{size_is}
use Rattle.rs_program.proofs.words.size.read_size.Goals as goal

pub returns-in_err-decimal-clause-none : goal.returns-in_err-decimal-clause-none
returns-in_err-decimal-clause-none c =
    let told = size_is c.args.text.now c.split_unit-each.result.0.now c.split_unit-each.result.1 (λ ds letters other parts. c.split_unit-each.ensures.only ds letters other (c.as_bytes.ensures.value ∙ parts)) in
    subst (λ (r : Option ℕ). IfNone r ((bytes : ℕ) → IsSize c.args.text.now bytes → ⊥)) (sym c.from_residual.ensures)
    (λ bytes size. let is = told bytes size in c.in_err-decimal.ensures (is.0, omega arith))

pub returns-in_err-bytes-clause-none : goal.returns-in_err-bytes-clause-none
returns-in_err-bytes-clause-none c =
    let told = size_is c.args.text.now c.split_unit-each.result.0.now c.split_unit-each.result.1 (λ ds letters other parts. c.split_unit-each.ensures.only ds letters other (c.as_bytes.ensures.value ∙ parts)) in
    subst (λ (r : Option ℕ). IfNone r ((bytes : ℕ) → IsSize c.args.text.now bytes → ⊥)) (sym c.from_residual-in_err-bytes.ensures)
    (λ bytes size.
    let is = told bytes size in
    let product : c.in_ok-decimal.field-0 * c.split_unit-each.result.1 ≡ bytes = ap (λ (n : ℕ). n * c.split_unit-each.result.1) c.in_ok-decimal.ensures.1 ∙ is.1 in
    c.in_err-bytes.ensures (subst (λ (n : ℕ). n < 2 ^ 64) (sym product) is.4))

pub returns-then-bytes-eq0-clause-none : goal.returns-then-bytes-eq0-clause-none
returns-then-bytes-eq0-clause-none c = λ bytes size.
    let is = size_is c.args.text.now c.split_unit-each.result.0.now c.split_unit-each.result.1 (λ ds letters other parts. c.split_unit-each.ensures.only ds letters other (c.as_bytes.ensures.value ∙ parts)) bytes size in
    let product : c.in_ok-bytes.bytes ≡ bytes = c.in_ok-bytes.ensures.1 ∙ ap (λ (n : ℕ). n * c.split_unit-each.result.1) c.in_ok-decimal.ensures.1 ∙ is.1 in
    omega (arith, product, is.3, c.if-bytes-eq0.true)
