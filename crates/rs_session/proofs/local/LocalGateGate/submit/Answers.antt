use Rattle.std.proofs.Common.{refl, subst}
use Rattle.rs_message.specs.declared.entry.Entry.{Entry}
use Rattle.rs_session.specs.Local.{catalogue_of, next_entry}
use Rattle.rs_store.specs.Adding.{Adds, NotAdds}
use Rattle.rs_store.specs.Contents.{IsAdded, NotAddedBy}
use Rattle.rs_store.specs.History.{Stands}
use Rattle.rs_store.specs.declared.fault.Refusal.{Refusal}
use Rattle.rs_store.specs.declared.fault.Refusal.TheVariants as refusal
use Rattle.rs_session.proofs.Submitting.{entry_is, entry_of, left_of, next_serial_added, not_added, not_submitted, origin_is, submitted}
use Rattle.rs_session.proofs.local.LocalGateGate.submit.Goals as goal

pub add-requires : goal.add-requires
add-requires g c = c.requires

pub returns-then-last-clause-list : goal.returns-then-last-clause-list
returns-then-last-clause-list g c = not_submitted Stands (g.C.Catalogue.content (catalogue_of c.args.self.now)) _ c.args.operation _ _ refl

pub returns-in-Ok-clause-list : goal.returns-in-Ok-clause-list
returns-in-Ok-clause-list g c = λ seen s.
    let old = g.C.Catalogue.content (catalogue_of c.args.self.now) in
    let new = g.C.Catalogue.content c.add.new.self in
    let is = entry_is old c.args.operation c.in-Some.origin c.last_serial-last.result (origin_is _ _ _ c.in-Some.ensures) (rw c.catalogue.ensures at c.last_serial-last.ensures.value) in
    let added = let P : Entry → Type 0 = λ e. IsAdded old e new in subst P is c.in-Ok.ensures.done in
    let adds = let P : Entry → Type 0 = λ e. Adds old.limit seen e (Stands new) in subst P is (c.in-Ok.ensures.stands seen s) in
    submitted (Stands new) old.limit old new c.args.operation seen (next_serial_added old new c.args.operation s.wide added) adds

pub returns-in-Ok-clause-done : goal.returns-in-Ok-clause-done
returns-in-Ok-clause-done g c =
    let old = g.C.Catalogue.content (catalogue_of c.args.self.now) in
    let new = g.C.Catalogue.content c.add.new.self in
    let is = entry_is old c.args.operation c.in-Some.origin c.last_serial-last.result (origin_is _ _ _ c.in-Some.ensures) (rw c.catalogue.ensures at c.last_serial-last.ensures.value) in
    let P : Entry → Type 0 = λ e. IsAdded old e new in subst P is c.in-Ok.ensures.done

pub returns-in-Err-Full-clause-list : goal.returns-in-Err-Full-clause-list
returns-in-Err-Full-clause-list g c =
    let old = g.C.Catalogue.content (catalogue_of c.args.self.now) in
    let new = g.C.Catalogue.content c.add.new.self in
    let refused = let P : Refusal → Type 0 = λ r. NotAddedBy old (entry_of c.in-Some.origin c.args.operation) r new in subst P c.in-Err-Full.field-0-is c.in-Err-Full.ensures.refused in
    not_submitted Stands old _ c.args.operation _ _ refused.1

pub returns-in-Err-NoMemory-clause-list : goal.returns-in-Err-NoMemory-clause-list
returns-in-Err-NoMemory-clause-list g c = λ seen s.
    let old = g.C.Catalogue.content (catalogue_of c.args.self.now) in
    let new = g.C.Catalogue.content c.add.new.self in
    let is = entry_is old c.args.operation c.in-Some.origin c.last_serial-last.result (origin_is _ _ _ c.in-Some.ensures) (rw c.catalogue.ensures at c.last_serial-last.ensures.value) in
    let none = let P : Refusal → Type 0 = λ r. NotAdds old.limit seen (entry_of c.in-Some.origin c.args.operation) r (Stands new) in subst P c.in-Err-NoMemory.field-0-is (c.in-Err-NoMemory.ensures.stands seen s) in
    let left = let P : Entry → Type 0 = λ e. NotAdds old.limit seen e refusal.NoMemory (Stands new) in subst P is none in
    not_added (Stands new) old.limit old new c.args.operation seen left

pub returns-in-Err-NoMemory-clause-refused : goal.returns-in-Err-NoMemory-clause-refused
returns-in-Err-NoMemory-clause-refused g c =
    let old = g.C.Catalogue.content (catalogue_of c.args.self.now) in
    let new = g.C.Catalogue.content c.add.new.self in
    let is = entry_is old c.args.operation c.in-Some.origin c.last_serial-last.result (origin_is _ _ _ c.in-Some.ensures) (rw c.catalogue.ensures at c.last_serial-last.ensures.value) in
    let none = let P : Refusal → Type 0 = λ r. NotAddedBy old (entry_of c.in-Some.origin c.args.operation) r new in subst P c.in-Err-NoMemory.field-0-is c.in-Err-NoMemory.ensures.refused in
    let refused = let P : Entry → Type 0 = λ e. NotAddedBy old e refusal.NoMemory new in subst P is none in
    left_of old (next_entry old c.args.operation) new refused
