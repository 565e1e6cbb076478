use Rattle.std.proofs.Common.{◌≡◌, ◌-◌, ◌*◌, ◌+◌, ◌^◌, ◌∙◌, ℕ, ap, arith, length, pow_mono, take_all}
use Rattle.rs_tree_bucket.specs.Keys.{spelt}
use Rattle.rs_tree_bucket.proofs.KeyLemmas.{byte_up, is_key_of, shift_fits, spelt_more}
use Rattle.rs_tree_bucket.proofs.key.Key.of_level.Goals as goal

pub overflow_add-number : goal.overflow_add-number
overflow_add-number c = omega (arith, c.loop-byte.invariant.1, pow_mono {i = 8 * c.loop-byte.byte-index} {j = 112} (omega arith), c.from.ensures)

pub loop-byte-preserved : goal.loop-byte-preserved
loop-byte-preserved c =
    let level = c.args.level.now in
    let i : ℕ = c.loop-byte.byte-index in
    let room = pow_mono {i = 8 * i} {j = 112} (omega arith) in (
      omega (arith, room, c.loop-byte.invariant, c.from.ensures, spelt_more i level c.loop-byte-test.true),
      omega (arith, room, c.loop-byte.invariant.1, byte_up (i + 1) i (omega arith), c.from.ensures, c.type_inv.level i),
    )

pub overflow_add-result : goal.overflow_add-result
overflow_add-result c = omega (arith, shift_fits c.loop-byte.byte-index (15 - length c.args.level.now) c.loop-byte.number (omega arith) c.loop-byte.invariant.1)

pub returns : goal.returns
returns c =
    let level = c.args.level.now in
    let whole : c.loop-byte.number ≡ spelt 0 level = c.loop-byte.invariant.0 ∙ ap (spelt 0) (take_all c.loop-byte.byte-index level (omega arith)) in
    let shifted = shift_fits c.loop-byte.byte-index (15 - length level) c.loop-byte.number (omega arith) c.loop-byte.invariant.1 in
    is_key_of level (15 - length level) _ c.type_inv.level c.requires (omega arith)
    (omega (arith, shifted, ap (λ (n : ℕ). n * 2 ^ (8 * (15 - length level))) whole))
