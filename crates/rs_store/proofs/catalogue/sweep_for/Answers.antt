use Rattle.std.proofs.Common.{◌≡◌, ◌+◌, ◌<◌, sym, ap, ◌∙◌, arith}
use Rattle.std.specs.Prelude.{slice_index}
use Rattle.rs_message.specs.Values.{MessageValue, OriginValue}
use Rattle.rs_message.specs.declared.entry.Operation.TheVariants.{Sweep}
use Rattle.rs_store.specs.Contents.{expired_in}
use Rattle.rs_store.proofs.Adding.{makes_space, named, not_above, not_without}
use Rattle.rs_store.proofs.catalogue.sweep_for.Goals as goal
use Rattle.rs_store.proofs.catalogue.sweep_for.Goals.{else-place-eq0-via-then-place-eq0+else-serial, else-place-eq0-via-else-place-eq0}

pub returns-then-version-clause-none : goal.returns-then-version-clause-none
returns-then-version-clause-none g c = λ s. omega (arith, c.if-version.true, c.version.ensures, s.fits.1.1)

pub returns-then-serial-clause-none : goal.returns-then-serial-clause-none
returns-then-serial-clause-none g c = λ s.
    not_above (g.C.Catalogue.content c.args.catalogue.now) c.args.entry.now c.last_serial-last.ensures.wide (sym c.place.ensures.value ∙ c.if-place-eq0.true) (omega (arith, c.if-serial.true, c.serial.ensures.value, c.last_serial-last.ensures.value)) s

pub returns-then-not-has_expired-clause-none : goal.returns-then-not-has_expired-clause-none
returns-then-not-has_expired-clause-none g c = λ s.
    let content = g.C.Catalogue.content c.args.catalogue.now in
    let received : c.received-moment.result ≡ c.in-Set.found.message.received = rw c.message.ensures at c.received-moment.ensures in
    let none : expired_in c.in-Set.found.message.received content ≡ 0 = rw (← received) c.if-not-has_expired.ensures.exact in
    not_without content c.args.entry.now c.in-Set.found.topic c.in-Set.found.message c.in-Set.is none s

pub returns-clause-some : goal.returns-clause-some
returns-clause-some g c =
    let content = g.C.Catalogue.content c.args.catalogue.now in
    let last = c.last_serial-last.ensures.value in
    let received : c.received-moment.result ≡ c.in-Set.found.message.received = rw c.message.ensures at c.received-moment.ensures in
    let some : 0 < expired_in c.in-Set.found.message.received content = rw (← received) c.if-not-has_expired.ensures.exact in
    let above : c.args.entry.now.origin.place ≡ 0 → slice_index content.serials 0 + 1 < c.args.entry.now.origin.serial = λ zero. elim c.else-place-eq0.branch [
      | else-place-eq0-via-then-place-eq0+else-serial w ↦ omega (arith, w.if-serial.false, w.serial.ensures.value, last)
      | else-place-eq0-via-else-place-eq0 w ↦ absurd (w.if-place-eq0.false (c.place.ensures.value ∙ zero))
    ] in
    let made = makes_space content c.args.entry.now c.in-Set.found.topic c.in-Set.found.message c.last_serial-last.ensures.wide c.in-Set.is c.requires.full.0 c.requires.full.1
    (omega (arith, c.count-count.ensures.value, c.count-count.ensures.few)) some (omega (arith, c.if-version.false, c.version.ensures)) (omega (arith, c.if-last.false, last)) above in
    let first : OriginValue = record { place = 0; serial = c.last_serial-last.result + 1 } in
    let next : OriginValue = record { place = 0; serial = slice_index content.serials 0 + 1 } in
    let step : first ≡ next = ap (λ n. let o : OriginValue = record { place = 0; serial = n + 1 } in o) last in
    let origin : c.in_ok-origin.origin ≡ next = named (c.last_serial-last.result + 1) c.in_ok-origin.origin first (omega arith) (sym c.in_ok-origin.was ∙ c.of_writer.ensures) ∙ step in
    let moment = received ∙ ap (λ (m : MessageValue). m.received) (sym made.1) in
    (made.0, λ i. record { origin = origin i; operation = Sweep (moment i) })
