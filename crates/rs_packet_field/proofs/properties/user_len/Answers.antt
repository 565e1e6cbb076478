use Rattle.std.proofs.Common.{ℕ, List, length, ap, subst, arith}
use Rattle.std.proofs.lemmas.List.Elements.{All-more}
use Rattle.rs_packet_property.specs.Properties.{IsShort, property_bytes}
use Rattle.rs_packet_property.specs.Carried.{user_property}
use Rattle.rs_packet_field.proofs.Written.{users_prefix, users_more}
use Rattle.rs_packet_field.proofs.properties.user_len.Goals as goal

pub overflow_add-len : goal.overflow_add-len
overflow_add-len c =
    let front = users_prefix c.args.user.now c.loop-pair.pair-index in
    omega (arith, front, c.requires, c.loop-pair.invariant.0, c.pair_len-len.ensures.small)

pub loop-pair-preserved : goal.loop-pair-preserved
loop-pair-preserved c =
    let more = users_more c.args.user.now c.loop-pair.pair-index c.pair-item.result c.loop-pair-test.true in
    let item = ap (λ (p : List ℕ × List ℕ). length (property_bytes (user_property p))) c.pair-item.is in (
      omega (arith, more, item, c.loop-pair.invariant.0, c.pair_len-len.ensures.value),
      All-more (λ pair. IsShort pair.0 × IsShort pair.1) c.args.user.now c.loop-pair.pair-index c.pair-item.result c.loop-pair-test.true c.loop-pair.invariant.1
          (subst (λ (p : List ℕ × List ℕ). IsShort p.0 × IsShort p.1) c.pair-item.is c.pair_len-len.ensures.fits),
    )
