use Rattle.std.proofs.Common.{◌≡◌, None, ap, ◌∙◌, arith}
use Rattle.rs_store.specs.History.{IsLegal, extended}
use Rattle.rs_version.specs.Copies.{shown}
use Rattle.rs_version.proofs.Memory.{true_le}
use Rattle.rs_version.proofs.WriterState.{unlisted, appended, small_of, sorted_of}
use Rattle.rs_version.proofs.writer.VersionWriter.append.Goals as goal

pub fits-requires : goal.fits-requires
fits-requires g c =
    let none : c.self.inside.held ≡ None = unlisted _ (ap (λ w. w.held) c.self.view_is ∙ c.requires.none) in
    rw c.catalogue.ensures (record { sorted = sorted_of _ _ _ _ _ _ _ c.self.invariant; small = small_of _ _ _ _ _ _ _ c.self.invariant none })

pub invariant_of-self : goal.invariant_of-self
invariant_of-self g c = rw c.in_err-step.ensures.history c.self.invariant

pub invariant_of-self-2 : goal.invariant_of-self-2
invariant_of-self-2 g c =
    let log = (shown c.self.inside.copies).prefix.log in
    let legal : IsLegal g.N.StoreName.limit (extended log c.args.entry) = rw (ap (λ w. w.published) c.self.view_is) c.requires.legal in
    appended _ _ _ _ c.push.new.self _ c.next_step.new.history _ c.with_entry-calm.result _ c.args.entry c.in_ok-step.step c.self.invariant (unlisted _ (ap (λ w. w.held) c.self.view_is ∙ c.requires.none))
    legal (omega (arith, c.place-place.ensures.value, c.place-place.ensures.small)) (omega (arith, c.serial-serial.ensures.value, c.serial-serial.ensures.some))
    c.push.ensures.shown c.push.ensures.steps c.in_ok-step.ensures.step.0 c.in_ok-step.ensures.step.1 c.in_ok-step.ensures.step.2 c.in_ok-step.ensures.history c.with_entry-calm.ensures
    (true_le _ _ c.fits.result (rw c.catalogue.ensures at c.fits.ensures) c.if-not-fits.false)
