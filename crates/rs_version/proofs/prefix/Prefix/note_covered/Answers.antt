use Rattle.std.proofs.Common.{◌≤◌, List, length, sym, ap, subst, ◌∙◌, arith}
use mathlib.Core.List.{IsPrefix}
use Rattle.rs_message.specs.declared.entry.Entry.{Entry}
use Rattle.rs_version.specs.HistoryRule.{no_entry}
use Rattle.rs_version.proofs.HistoryRule.{sees_moves}
use Rattle.rs_version.proofs.Prefixes.{prefix_of_whole}
use Rattle.rs_version.proofs.prefix.Prefix.note_covered.Goals as goal

pub compare_exchange-found-requires : goal.compare_exchange-found-requires
compare_exchange-found-requires c =
    let h = c.requires.word in
    let offer = c.plain-offer.ensures in
    let same = ap (λ b. b.history) c.self.view_is ∙ sym (ap (λ w. w.book) h) in (
      ap (λ w. w.tracked) h,
      c.learn.ensures.0 ∙ (ap (λ s. s.book) c.again-seen.ensures ∙ same),
      c.requires.right.0 ∙ sym (ap (λ w. w.book) h),
      offer.0,
      rw (ap (λ w. w.key) h, c.requires.right.1, offer.3) (sees_moves c.learn.new.self.log (length c.args.self.now.log) no_entry),
    )

pub returns-clause-prefix : goal.returns-clause-prefix
returns-clause-prefix c =
    let own = c.self.inside.seen.log in
    let other = c.other.inside.seen.log in
    let both = c.learn.new.self.log in
    let step = c.compare_exchange-found.ensures in
    let all = c.compare_exchange-found.new.seen.log in
    let this : IsPrefix own both = subst (λ (l : List Entry). IsPrefix l both) (ap (λ s. s.log) c.again-seen.ensures) c.learn.ensures.2 in
    let few : length all ≤ length own = omega (arith, step.7.1, ap (λ p. p.key) c.requires.right.1, ap (λ b. length b.log) c.self.view_is) in
    rw (← c.self.view_is, ← c.other.view_is) (prefix_of_whole own other both all this c.learn.ensures.3 step.6 few)
