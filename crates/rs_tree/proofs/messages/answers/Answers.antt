use Rattle.std.proofs.Common.{◌≡◌, ◌<◌, ◌≤◌, ◌++◌, length, map, ◌∙◌, arith}
use Rattle.std.specs.List.{filter}
use Rattle.rs_topic.specs.Topics.{levels}
use Rattle.rs_store.specs.Contents.{found_of, is_answered}
use Rattle.rs_topic.specs.Rests.{levels_from}
use Rattle.rs_tree_branch.specs.Spots.{pairs}
use Rattle.rs_tree_branch.specs.Chosen.{chosen_at_root}
use Rattle.rs_topic.proofs.Rests.{from_start}
use Rattle.rs_tree.proofs.Trees.{answered}
use Rattle.rs_store.proofs.Rooms.{some_fits, none_fits}
use Rattle.rs_tree.proofs.messages.answers.Goals as goal

pub returns-in-Ok : goal.returns-in-Ok
returns-in-Ok c =
    let pattern = c.args.filter.now in
    let h : c.answer.new.answer.found.items ≡ c.new-answer.result.found.items ++ chosen_at_root (levels_from 0 pattern) c.args.now c.args.root.now = rw c.as_bytes.ensures.bytes at c.in-Ok.ensures.done in
    let all : c.answer.new.answer.found.items ≡ chosen_at_root (levels pattern) c.args.now c.args.root.now = rw (c.new-answer.ensures.empty, from_start pattern) at h in
    let few : length c.into_found.result.items ≤ c.args.room = omega (arith, c.into_found.ensures.fits, c.answer.ensures.room, c.new-answer.ensures.room) in
    some_fits c.args.room c.into_found.result.items (map found_of (filter (is_answered pattern c.args.now) (pairs c.args.root.now))) (c.into_found.ensures.found ∙ (all ∙ answered pattern c.args.now c.args.root.now c.requires)) few

pub returns-in-Err-NoRoom : goal.returns-in-Err-NoRoom
returns-in-Err-NoRoom c =
    let pattern = c.args.filter.now in
    let found = map found_of (filter (is_answered pattern c.args.now) (pairs c.args.root.now)) in
    let whole : c.new-answer.result.found.items ++ chosen_at_root (levels_from 0 c.as_bytes.result.now) c.args.now c.args.root.now ≡ found =
    rw (c.as_bytes.ensures.bytes, c.new-answer.ensures.empty, from_start pattern) (answered pattern c.args.now c.args.root.now c.requires) in
    let more : c.args.room < length (c.new-answer.result.found.items ++ chosen_at_root (levels_from 0 c.as_bytes.result.now) c.args.now c.args.root.now) =
    rw (c.in-Err-NoRoom.field-0-is, c.new-answer.ensures.room) at c.in-Err-NoRoom.ensures.stop in
    let beyond : c.args.room < length found = rw whole at more in
    none_fits c.args.room found beyond
