use Rattle.rs_store.proofs.calm_catalogue.CalmCatalogue.add.Goals as goal

pub returns-clause-done : goal.returns-clause-done
returns-clause-done g c = rw (← c.self.view_is) c.add.ensures.done

pub returns-clause-stands : goal.returns-clause-stands
returns-clause-stands g c = rw (← c.self.view_is) c.add.ensures.stands
