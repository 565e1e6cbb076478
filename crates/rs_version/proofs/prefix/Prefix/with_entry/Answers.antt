use Rattle.std.proofs.Common.{length, sym, ap, ◌∙◌}
use Rattle.rs_version.specs.HistoryRule.{right_of}
use Rattle.rs_version.proofs.HistoryRule.{adds_moves}
use Rattle.rs_version.proofs.prefix.Prefix.with_entry.Goals as goal

pub compare_exchange-found-requires : goal.compare_exchange-found-requires
compare_exchange-found-requires c =
    let h = c.requires.word in
    let seen = c.again-seen.ensures in
    let offer = c.plain-offer.ensures in
    let same = ap (λ b. b.history) c.self.view_is ∙ sym (ap (λ w. w.book) h) in
    let own = ap (λ s. s.log) seen ∙ ap (λ b. b.log) c.self.view_is in
    let nib = c.requires.right.1 ∙ sym (ap (λ l. right_of (length l)) own) in (
      ap (λ w. w.tracked) h,
      ap (λ s. s.book) seen ∙ same,
      c.requires.right.0 ∙ sym (ap (λ w. w.book) h),
      offer.0,
      rw (ap (λ w. w.key) h, nib, offer.1, offer.3) (adds_moves c.again-seen.result.log c.args.entry.now),
    )
