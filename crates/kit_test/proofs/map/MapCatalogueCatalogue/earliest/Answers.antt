use Rattle.rs_store.proofs.Expiring.{calm_until, some_gone}
use Rattle.kit_test.proofs.map.MapCatalogueCatalogue.earliest.Goals as goal

pub returns-clause-calm : goal.returns-clause-calm
returns-clause-calm c = calm_until c.earliest_of.result c.args.self.now.messages.retained.entries c.earliest_of.ensures

pub returns-clause-first : goal.returns-clause-first
returns-clause-first c = some_gone c.earliest_of.result c.args.self.now.messages.retained.entries c.earliest_of.ensures
