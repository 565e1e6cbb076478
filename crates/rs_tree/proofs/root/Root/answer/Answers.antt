use Rattle.rs_tree_branch.specs.Chosen.{chosen_at_root}
use Rattle.rs_topic.specs.Rests.{levels_from}
use Rattle.rs_tree_bucket.specs.Answers.{Gives}
use Rattle.rs_tree_branch.proofs.Choosing.{gives_done, gives_room, gives_why}
use Rattle.rs_tree.proofs.root.Root.answer.Goals as goal

pub returns-clause-done : goal.returns-clause-done
returns-clause-done c =
    let found = chosen_at_root (levels_from 0 c.args.filter.now) c.args.now c.args.self.now in
    let gives : Gives c.answer_at_root.result c.args.answer.now c.answer_at_root.new.answer found = rw (c.deref.ensures, c.self.view_is) at c.answer_at_root.ensures in
    gives_done c.answer_at_root.result c.args.answer.now c.answer_at_root.new.answer found gives

pub returns-clause-stop : goal.returns-clause-stop
returns-clause-stop c =
    let found = chosen_at_root (levels_from 0 c.args.filter.now) c.args.now c.args.self.now in
    let gives : Gives c.answer_at_root.result c.args.answer.now c.answer_at_root.new.answer found = rw (c.deref.ensures, c.self.view_is) at c.answer_at_root.ensures in
    gives_why c.answer_at_root.result c.args.answer.now c.answer_at_root.new.answer found gives

pub returns-clause-room : goal.returns-clause-room
returns-clause-room c = gives_room c.answer_at_root.result c.args.answer.now c.answer_at_root.new.answer _ c.answer_at_root.ensures
