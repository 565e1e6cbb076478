use Rattle.std.proofs.Common.{sym, ap, ◌∙◌}
use Rattle.rs_version.specs.HistoryRule.{no_entry}
use Rattle.rs_version.proofs.HistoryRule.{makes_moves}
use Rattle.rs_version.proofs.prefix.right_to_add.Goals as goal

pub compare_exchange-found-requires : goal.compare_exchange-found-requires
compare_exchange-found-requires c =
    let h = c.requires in
    let offer = c.plain-offer.ensures in
    let pen = c.no_pen-pen.ensures in
    let book = ap (λ s. s.book) c.again-reached.ensures ∙ sym (ap (λ w. w.book) h) in (
      ap (λ w. w.tracked) h,
      book,
      pen.0 ∙ book,
      offer.0,
      rw (ap (λ w. w.key) h, pen.1, offer.3) (makes_moves c.again-reached.result.log no_entry c.args.number c.in_ok-more.more c.in_ok-more.ensures.1),
    )
