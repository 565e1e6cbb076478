use Rattle.rs_tree.proofs.root.Root.set.Goals as goal

pub returns-then-is_some-clause-replaced : goal.returns-then-is_some-clause-replaced
returns-then-is_some-clause-replaced c = rw c.self.view_is at c.in_ok-old.ensures.replaced

pub returns-clause-replaced : goal.returns-clause-replaced
returns-clause-replaced c = rw c.self.view_is at c.in_ok-old.ensures.replaced
