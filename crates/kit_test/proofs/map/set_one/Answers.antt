use Rattle.std.proofs.Common.{◌≡◌, ap, ◌∙◌, arith}
use Rattle.std.specs.Map.{lookup}
use Rattle.std.specs.BTreeMap.{is_at}
use Rattle.std.specs.Option.{option_copied}
use Rattle.rs_topic.specs.Order.{topic_cmp}
use Rattle.rs_store.specs.Bytes.{bytes_at, bytes_if_any, bytes_of}
use Rattle.rs_store.proofs.Bytes.{bytes_at_le, bytes_insert}
use Rattle.kit_test.proofs.map.set_one.Goals as goal

pub overflow_sub-result : goal.overflow_sub-result
overflow_sub-result c =
    let es = c.args.retained.now.entries in
    let t = c.args.found.now.topic in
    let old : c.in_ok-old.old ≡ lookup (is_at (topic_cmp t)) es = rw (c.in_ok-copy.ensures, c.topic-topic.ensures) at c.in_ok-old.ensures.replaced in
    let any : c.bytes_if_any.result ≡ bytes_if_any t (option_copied c.as_ref.result) = rw c.topic-topic.ensures at c.bytes_if_any.ensures in
    let counted : c.bytes_if_any.result ≡ bytes_at t es = any ∙ ap (bytes_if_any t) (c.as_ref.ensures.value ∙ old) in
    omega (arith, counted, bytes_at_le es t, c.requires, c.in-Some.ensures)

pub returns-clause-weighed : goal.returns-clause-weighed
returns-clause-weighed c =
    let es = c.args.retained.now.entries in
    let t = c.args.found.now.topic in
    let m = c.args.found.now.message in
    let old : c.in_ok-old.old ≡ lookup (is_at (topic_cmp t)) es = rw (c.in_ok-copy.ensures, c.topic-topic.ensures) at c.in_ok-old.ensures.replaced in
    let any : c.bytes_if_any.result ≡ bytes_if_any t (option_copied c.as_ref.result) = rw c.topic-topic.ensures at c.bytes_if_any.ensures in
    let counted : c.bytes_if_any.result ≡ bytes_at t es = any ∙ ap (bytes_if_any t) (c.as_ref.ensures.value ∙ old) in
    let size : c.bytes_of.result ≡ bytes_of (t, m) = rw (c.topic-topic.ensures, c.message-message.ensures) at c.bytes_of.ensures.value in
    rw (c.in_ok-old.ensures.done, c.in_ok-copy.ensures, c.topic-topic.ensures, c.in_ok-copy-2.ensures, c.message-message.ensures)
    (omega (arith, counted, size, bytes_insert es t m c.in_ok-old.ensures.sorted, c.requires, c.in-Some.ensures))
