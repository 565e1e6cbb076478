use Rattle.std.proofs.Common.{◌≡◌, ap, sym, ◌∙◌, arith}
use Rattle.std.specs.Map.{remove_entry}
use Rattle.std.specs.Option.{option_copied}
use Rattle.std.specs.BTreeMap.{is_at}
use Rattle.rs_topic.specs.Order.{path_cmp}
use Rattle.rs_topic.specs.Rests.{levels_from}
use Rattle.rs_tree_bucket.specs.Spots.{found_at, is_there}
use Rattle.rs_tree_branch.specs.Spots.{pairs}
use Rattle.rs_topic.proofs.Rests.{from_start}
use Rattle.rs_tree.proofs.Trees.{found_bytes_le, pairs_remove, placed_remove, clear_old, clear_none}
use Rattle.rs_tree.proofs.messages.clear_one.Goals as goal

pub overflow_sub-bytes : goal.overflow_sub-bytes
overflow_sub-bytes c =
    let is : option_copied c.find.result ≡ found_at (levels_from 0 c.args.topic.now) c.args.root.now = rw c.as_bytes-name.ensures.bytes at c.find.ensures in
    omega (arith, c.bytes_if_found-gone.ensures, found_bytes_le c.args.root.now c.args.topic.now (option_copied c.find.result) c.args.totals c.requires.placed c.requires.totals is)

pub returns-then-was-clause-done : goal.returns-then-was-clause-done
returns-then-was-clause-done c =
    let h : c.clear.new.self ≡ remove_entry (is_at (path_cmp (levels_from 0 c.args.topic.now))) c.args.root.now = rw c.as_bytes-name.ensures.bytes at c.in_ok-was.ensures.done in
    ap pairs h ∙ pairs_remove c.args.root.now (levels_from 0 c.args.topic.now) c.args.topic.now c.requires.placed (from_start c.args.topic.now)

pub returns-then-was-clause-totals : goal.returns-then-was-clause-totals
returns-then-was-clause-totals c =
    let is : option_copied c.find.result ≡ found_at (levels_from 0 c.args.topic.now) c.args.root.now = rw c.as_bytes-name.ensures.bytes at c.find.ensures in
    let there : c.in_ok-was.was' ≡ is_there (levels_from 0 c.args.topic.now) c.args.root.now = rw c.as_bytes-name.ensures.bytes at c.in_ok-was.ensures.existed in
    clear_old c.args.root.now c.args.topic.now c.args.totals c.requires.placed c.requires.totals (option_copied c.find.result) c.bytes_if_found-gone.result (sym c.if-was.true ∙ there) is c.bytes_if_found-gone.ensures

pub returns-then-was-clause-placed : goal.returns-then-was-clause-placed
returns-then-was-clause-placed c = rw c.in_ok-was.ensures.done (placed_remove c.args.root.now (is_at (path_cmp (levels_from 0 c.as_bytes-name.result.now))) c.requires.placed)

pub returns-else-was-clause-done : goal.returns-else-was-clause-done
returns-else-was-clause-done c =
    let h : c.clear.new.self ≡ remove_entry (is_at (path_cmp (levels_from 0 c.args.topic.now))) c.args.root.now = rw c.as_bytes-name.ensures.bytes at c.in_ok-was.ensures.done in
    ap pairs h ∙ pairs_remove c.args.root.now (levels_from 0 c.args.topic.now) c.args.topic.now c.requires.placed (from_start c.args.topic.now)

pub returns-else-was-clause-totals : goal.returns-else-was-clause-totals
returns-else-was-clause-totals c =
    let is : option_copied c.find.result ≡ found_at (levels_from 0 c.args.topic.now) c.args.root.now = rw c.as_bytes-name.ensures.bytes at c.find.ensures in
    let there : c.in_ok-was.was' ≡ is_there (levels_from 0 c.args.topic.now) c.args.root.now = rw c.as_bytes-name.ensures.bytes at c.in_ok-was.ensures.existed in
    clear_none c.args.root.now c.args.topic.now c.args.totals c.requires.placed c.requires.totals (option_copied c.find.result) c.bytes_if_found-gone.result (sym c.if-was.false ∙ there) is c.bytes_if_found-gone.ensures

pub returns-else-was-clause-placed : goal.returns-else-was-clause-placed
returns-else-was-clause-placed c = rw c.in_ok-was.ensures.done (placed_remove c.args.root.now (is_at (path_cmp (levels_from 0 c.as_bytes-name.result.now))) c.requires.placed)
