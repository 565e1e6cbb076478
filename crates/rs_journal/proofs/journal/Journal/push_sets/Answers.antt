use Rattle.std.proofs.Common.{◌++◌, ◌∷◌, [], List, sym, ap, subst, ◌∙◌, append_assoc}
use Rattle.std.specs.List.Sorted.{IsStrictlySortedBy}
use Rattle.std.specs.Map.{keys_of}
use Rattle.std.proofs.lemmas.List.{append-nil}
use Rattle.rs_topic.specs.Order.{topic_cmp}
use Rattle.sqlite_wal.proofs.StateLemmas.{AddsNothing-fewer, AddsNothing-trans}
use Rattle.rs_message.specs.declared.entry.Operation.{Operation}
use Rattle.rs_journal.proofs.StandsLemmas.{stands_of}
use Rattle.rs_journal.specs.Frames.{frames}
use Rattle.rs_journal.specs.Journals.{may_leave, Holds}
use Rattle.rs_journal.specs.Retaining.{sets}
use Rattle.rs_journal.proofs.RetainedLemmas.{Messages, sets_next, sets_retained}
use Rattle.rs_journal.proofs.journal.Journal.push_sets.Goals as goal

pub loop-topic-init : goal.loop-topic-init
loop-topic-init g c = record {
  crash = AddsNothing-fewer 1024 (may_leave c.args.self.now) (may_leave c.args.self.now) (λ left may. may);
  stands = λ standing seen holds. stands_of c.args.self.now.stream (frames standing) (frames seen) holds;
  pushed = ([], c.into_iter-topic-iterator.ensures.into_iter_gives.0, λ standing seen holds. subst (λ (s : List Operation). Holds c.args.self.now standing s) (sym (append-nil seen)) holds);
}

pub returns-in_err-push_frame-clause-crash : goal.returns-in_err-push_frame-clause-crash
returns-in_err-push_frame-clause-crash g c =
    AddsNothing-trans 1024 (may_leave c.args.self.now) (may_leave c.loop-topic.self) (may_leave c.push_frame.new.self) c.loop-topic.invariant.crash c.push_frame.ensures.crash

pub loop-topic-preserved-in_ok-push_frame : goal.loop-topic-preserved-in_ok-push_frame
loop-topic-preserved-in_ok-push_frame g c =
    let inv = c.loop-topic.invariant in
    record {
      crash = AddsNothing-trans 1024 (may_leave c.args.self.now) (may_leave c.loop-topic.self) (may_leave c.push_frame.new.self) inv.crash c.push_frame.ensures.crash;
      stands = λ standing seen holds. c.push_frame.ensures.stands standing (seen ++ sets inv.pushed.0) (inv.pushed.2 standing seen holds);
      pushed = (
        inv.pushed.0 ++ (c.in-Some.topic.now, c.in-Some.message.now) ∷ [],
        append_assoc inv.pushed.0 ((c.in-Some.topic.now, c.in-Some.message.now) ∷ []) c.next.new.self ∙ (ap (λ (w : Messages). inv.pushed.0 ++ w) (sym c.in-Some.ensures.steps) ∙ inv.pushed.1),
        λ standing seen holds.
            subst (λ (s : List Operation). Holds c.push_frame.new.self standing s)
            (sets_next seen inv.pushed.0 c.in_ok-found.found c.in-Some.topic.now c.in_ok-copy.field-0 c.in-Some.message.now c.in_ok-copy-2.field-0 c.in_ok-found.ensures c.in_ok-copy.ensures c.in_ok-copy-2.ensures)
            (c.in_ok-push_frame.ensures.pushed standing (seen ++ sets inv.pushed.0) (inv.pushed.2 standing seen holds)),
      );
    }

pub returns-clause-leave : goal.returns-clause-leave
returns-clause-leave g c =
    let sorted : IsStrictlySortedBy topic_cmp (keys_of c.args.retained.now.messages.entries) = c.into_iter-topic-iterator.ensures.into_iter_gives.5 in
    sets_retained c.args.retained.now.messages.entries sorted
