use Rattle.std.proofs.Common.{◌≡◌, ap, ◌∙◌, arith}
use Rattle.rs_store.specs.Bytes.{bytes_at, bytes_if_any}
use Rattle.rs_store.proofs.Bytes.{bytes_at_le, bytes_remove}
use Rattle.kit_test.proofs.map.clear_one.Goals as goal

pub overflow_sub-result : goal.overflow_sub-result
overflow_sub-result c =
    let es = c.args.retained.now.entries in
    let t = c.args.topic.now in
    let counted : c.bytes_if_any.result ≡ bytes_at t es = c.bytes_if_any.ensures ∙ ap (bytes_if_any t) (c.as_ref.ensures.value ∙ c.remove-old.ensures.value) in
    omega (arith, counted, bytes_at_le es t, c.requires)

pub returns-clause-weighed : goal.returns-clause-weighed
returns-clause-weighed c =
    let es = c.args.retained.now.entries in
    let t = c.args.topic.now in
    let counted : c.bytes_if_any.result ≡ bytes_at t es = c.bytes_if_any.ensures ∙ ap (bytes_if_any t) (c.as_ref.ensures.value ∙ c.remove-old.ensures.value) in
    rw c.remove-old.ensures.entries (omega (arith, counted, bytes_remove es t, c.requires))
