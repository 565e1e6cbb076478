use Rattle.std.proofs.Common.{◌≡◌, ◌+◌, ap, sym, ◌∙◌, arith}
use Rattle.rs_topic.specs.Rests.{levels_from}
use Rattle.rs_store.specs.Bytes.{bytes_of}
use Rattle.rs_tree_bucket.specs.Weights.{bytes_if_found}
use Rattle.rs_tree_branch.specs.Spots.{pairs}
use Rattle.rs_topic.proofs.Rests.{from_start}
use Rattle.rs_tree.proofs.Trees.{found_bytes_le, pairs_insert, placed_insert, set_old, set_new}
use Rattle.rs_tree.proofs.messages.set_one.Goals as goal

pub overflow_sub-bytes : goal.overflow_sub-bytes
overflow_sub-bytes c =
    let gone : c.bytes_if_found-gone.result ≡ bytes_if_found c.in_ok-old.old = c.bytes_if_found-gone.ensures ∙ ap bytes_if_found c.as_ref.ensures.value in
    omega (arith, gone, c.in-Some.ensures, found_bytes_le c.args.root.now c.args.found.topic c.in_ok-old.old c.args.totals c.requires.placed c.requires.totals c.in_ok-old.ensures.replaced)

pub returns-then-is_some-clause-done : goal.returns-then-is_some-clause-done
returns-then-is_some-clause-done c = ap pairs c.in_ok-old.ensures.done ∙ pairs_insert c.args.root.now (levels_from 0 c.args.found.topic) c.args.found c.requires.placed (from_start c.args.found.topic)

pub returns-then-is_some-clause-totals : goal.returns-then-is_some-clause-totals
returns-then-is_some-clause-totals c =
    let size : c.bytes_of-size.result ≡ bytes_of (c.args.found.topic, c.args.found.message) = rw (c.topic.ensures, c.message.ensures) at c.bytes_of-size.ensures.value in
    let both : c.in-Some.both ≡ c.args.totals.bytes + bytes_of (c.args.found.topic, c.args.found.message) = omega (arith, c.in-Some.ensures, size) in
    let gone : c.bytes_if_found-gone.result ≡ bytes_if_found c.in_ok-old.old = c.bytes_if_found-gone.ensures ∙ ap bytes_if_found c.as_ref.ensures.value in
    set_old c.args.root.now c.args.found.topic c.args.totals c.requires.placed c.requires.totals c.args.found.message c.in_ok-old.old c.in-Some.both c.bytes_if_found-gone.result c.requires.sorted c.in_ok-old.ensures.replaced (sym c.is_some.ensures ∙ c.if-is_some.true) both gone

pub returns-then-is_some-clause-placed : goal.returns-then-is_some-clause-placed
returns-then-is_some-clause-placed c = rw c.in_ok-old.ensures.done (placed_insert c.args.root.now (levels_from 0 c.args.found.topic) c.args.found c.requires.placed (from_start c.args.found.topic))

pub returns-clause-done : goal.returns-clause-done
returns-clause-done c = ap pairs c.in_ok-old.ensures.done ∙ pairs_insert c.args.root.now (levels_from 0 c.args.found.topic) c.args.found c.requires.placed (from_start c.args.found.topic)

pub returns-clause-totals : goal.returns-clause-totals
returns-clause-totals c =
    let size : c.bytes_of-size.result ≡ bytes_of (c.args.found.topic, c.args.found.message) = rw (c.topic.ensures, c.message.ensures) at c.bytes_of-size.ensures.value in
    let both : c.in-Some.both ≡ c.args.totals.bytes + bytes_of (c.args.found.topic, c.args.found.message) = omega (arith, c.in-Some.ensures, size) in
    let gone : c.bytes_if_found-gone.result ≡ bytes_if_found c.in_ok-old.old = c.bytes_if_found-gone.ensures ∙ ap bytes_if_found c.as_ref.ensures.value in
    set_new c.args.root.now c.args.found.topic c.args.totals c.requires.placed c.requires.totals c.args.found.message c.in_ok-old.old c.in-Some.both c.bytes_if_found-gone.result c.requires.sorted c.in_ok-old.ensures.replaced (sym c.is_some.ensures ∙ c.if-is_some.false) both gone

pub returns-clause-placed : goal.returns-clause-placed
returns-clause-placed c = rw c.in_ok-old.ensures.done (placed_insert c.args.root.now (levels_from 0 c.args.found.topic) c.args.found c.requires.placed (from_start c.args.found.topic))
