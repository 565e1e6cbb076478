use Rattle.std.proofs.Common.{rules, ◌≡◌, ◌∷◌, [], ℕ, ◌-◌, ◌<◌, ◌++◌, List, length, set, sym, subst, ap, ◌∙◌, arith}
use Rattle.std.proofs.lemmas.List.{get_or_read}
use Rattle.rs_message.specs.declared.entry.Entry.{Entry}
use Rattle.rs_store.specs.History.{SerialsRise}
use Rattle.rs_intake_queue.specs.Changes.{place_of_all}
use Rattle.rs_intake_line.specs.Done.{AreReplied, Told, untold, way_to}
use Rattle.rs_intake_line.specs.Sending.{AreSentNext}
use Rattle.rs_intake.proofs.Done.{left_all}
use Rattle.rs_intake.proofs.ways_back.WaysBack.put_job.Goals as goal

pub put_alone-requires : goal.put_alone-requires
put_alone-requires g c =
    let rises = c.requires.rises in
    let e = c.in-One.ensures in
    let P : List Entry → Type 0 = λ l. SerialsRise (rises.0 ++ l) in
    record { left = left_all _ _ rises.0 (c.in-One.entry ∷ []) rises.1 (subst P (sym e.entries) rises.2) e.changes; ready = c.requires.ready }

pub returns-in-One-clause-replied : goal.returns-in-One-clause-replied
returns-in-One-clause-replied g c =
    let e = c.put_alone.ensures.replied in
    let told = c.put_alone.new.to in
    let ways = c.args.self.now.senders.items in
    let place = c.place-place.ensures.place in
    let some = c.place-place.ensures.some in
    let there = c.requires.place in
    let is : c.in-One.entry ∷ [] ≡ c.args.changes = c.in-One.ensures.entries in
    let R : List Entry → Type 0 = λ l. AreReplied g.N.StoreName.limit g.S.StoreWriter.most_held (g.S.StoreWriter.written c.args.writer.now) l e.0 c.put_alone.result (g.S.StoreWriter.written c.put_alone.new.writer) in
    let here : c.place-place.result - 1 < length ways = omega (arith, place, some, there) in
    let way : c.set_alone.new.self ≡ way_to (place_of_all c.args.changes) ways = c.set_alone.ensures ∙ get_or_read ways _ _ here c.index_mut-to.ensures.value untold ∙ ap (λ (p : ℕ). way_to p ways) place in
    let S : Told → Type 0 = λ w. AreSentNext w e.0 told in
    (e.0, subst R is e.1, (told, subst S way e.2, ap (λ (p : ℕ). set ways (p - 1) told) place))

pub returns-clause-replied : goal.returns-clause-replied
returns-clause-replied g c =
    let e = c.put_and_send.ensures.replied in
    let told = c.put_and_send.new.to in
    let ways = c.args.self.now.senders.items in
    let place = c.place-place.ensures.place in
    let some = c.place-place.ensures.some in
    let there = c.requires.place in
    let is : c.from_vec-entries.result.items ≡ c.args.changes = search rules in
    let R : List Entry → Type 0 = λ l. AreReplied g.N.StoreName.limit g.S.StoreWriter.most_held (g.S.StoreWriter.written c.args.writer.now) l e.0 c.put_and_send.result (g.S.StoreWriter.written c.put_and_send.new.writer) in
    let here : c.place-place.result - 1 < length ways = omega (arith, place, some, there) in
    let way : c.set_alone.new.self ≡ way_to (place_of_all c.args.changes) ways = c.set_alone.ensures ∙ get_or_read ways _ _ here c.index_mut-to.ensures.value untold ∙ ap (λ (p : ℕ). way_to p ways) place in
    let S : Told → Type 0 = λ w. AreSentNext w e.0 told in
    (e.0, subst R is e.1, (told, subst S way e.2, ap (λ (p : ℕ). set ways (p - 1) told) place))
