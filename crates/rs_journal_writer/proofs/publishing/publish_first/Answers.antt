use Rattle.std.proofs.Common.{◌≡◌, ◌∷◌, drop, sym, subst}
use Rattle.rs_message.specs.declared.entry.Entry.{Entry}
use Rattle.rs_journal_writer.proofs.Moving.{front_is}
use Rattle.rs_journal_writer.proofs.publishing.publish_first.Goals as goal

pub publish_next-requires-clause-next : goal.publish_next-requires-clause-next
publish_next-requires-clause-next g c =
    let waiting = c.args.waiting.now.items in
    let first = front_is waiting c.in-Some.first.now c.requires.some c.in-Some.ensures.lookup in
    subst (λ (e : Entry). waiting ≡ e ∷ drop 1 waiting) (sym c.in_ok-entry.ensures) first
