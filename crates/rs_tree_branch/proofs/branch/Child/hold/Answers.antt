use Rattle.std.proofs.Common.{◌≡◌, ◌∷◌, ◌∙◌}
use Rattle.rs_topic.specs.Rests.{levels_from}
use Rattle.rs_tree_branch.proofs.Growing.{grown_under}
use Rattle.rs_tree_branch.proofs.Chunks.{found_under}
use Rattle.rs_tree_branch.proofs.branch.Child.hold.Goals as goal

pub returns-clause-done : goal.returns-clause-done
returns-clause-done c =
    let leads : levels_from c.args.at c.args.found.topic ≡ c.self.inside.level ∷ levels_from c.args.next c.args.found.topic = rw (← c.self.view_is, c.in-Few.is) at c.requires in
    rw (← c.self.view_is, c.in-Few.is, c.in_ok-level.ensures) (grown_under c.self.inside.level (levels_from c.args.next c.args.found.topic) (levels_from c.args.at c.args.found.topic) c.args.found leads c.in-Few.bucket c.set.new.self c.in_ok-old.ensures.done)

pub returns-clause-replaced : goal.returns-clause-replaced
returns-clause-replaced c =
    let leads : levels_from c.args.at c.args.found.topic ≡ c.self.inside.level ∷ levels_from c.args.next c.args.found.topic = rw (← c.self.view_is, c.in-Few.is) at c.requires in
    rw (← c.self.view_is, c.in-Few.is) (c.in_ok-old.ensures.replaced ∙ found_under c.self.inside.level (levels_from c.args.next c.args.found.topic) (levels_from c.args.at c.args.found.topic) c.in-Few.bucket leads)
