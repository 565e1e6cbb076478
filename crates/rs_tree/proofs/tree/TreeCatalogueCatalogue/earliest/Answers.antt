use Rattle.rs_store.proofs.Expiring.{calm_until, some_gone}
use Rattle.rs_tree.proofs.tree.TreeCatalogueCatalogue.earliest.Goals as goal

pub returns-clause-calm : goal.returns-clause-calm
returns-clause-calm c = rw (← c.self.view_is) (calm_until c.earliest.result c.self.inside.messages c.earliest.ensures)

pub returns-clause-first : goal.returns-clause-first
returns-clause-first c = rw (← c.self.view_is) (some_gone c.earliest.result c.self.inside.messages c.earliest.ensures)
