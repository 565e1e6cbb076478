use Rattle.std.proofs.Common.{◌≡◌, ◌++◌, ◌∷◌, ◌∙◌, [], ℕ, List, ap, append_assoc, map, refl, sym}
use Rattle.std.specs.List.Sorted.{IsStrictlySortedBy}
use Rattle.std.specs.Map.{keys_of}
use Rattle.std.proofs.lemmas.List.{append-nil, map-append}
use Rattle.rs_topic.specs.Order.{topic_cmp}
use Rattle.rs_message.specs.Values.{MessageValue}
use Rattle.rs_message.specs.declared.found.Found.{Found}
use Rattle.rs_store.specs.Contents.{found_of}
use Rattle.rs_journal.proofs.RetainedLemmas.{Messages, sets_retained}
use Rattle.rs_journal.proofs.retained.Retained.list.Goals as goal

pub loop-topic-init : goal.loop-topic-init
loop-topic-init c = ([], c.into_iter-topic-iterator.ensures.into_iter_gives.0, c.new-list.ensures.items)

pub loop-topic-preserved : goal.loop-topic-preserved
loop-topic-preserved c =
    let inv = c.loop-topic.invariant in
    let topic = c.in-Some.topic.now in
    let message = c.in-Some.message.now in
    let F : List ℕ → MessageValue → Found = λ t m. record { topic = t; message = m } in
    let found : c.in_ok-found.found ≡ found_of (topic, message) =
    c.in_ok-found.ensures ∙ (ap (λ (t : List ℕ). F t c.in_ok-copy-2.field-0) c.in_ok-copy.ensures ∙ ap (λ (m : MessageValue). F topic m) c.in_ok-copy-2.ensures) in (
      inv.0 ++ (topic, message) ∷ [],
      append_assoc inv.0 ((topic, message) ∷ []) c.next.new.self ∙ (ap (λ (w : Messages). inv.0 ++ w) (sym c.in-Some.ensures.steps) ∙ inv.1),
      c.in-Ok.ensures.items ∙ (ap (λ (l : List Found). l ++ c.in_ok-found.found ∷ []) inv.2
          ∙ (ap (λ (f : Found). map found_of inv.0 ++ f ∷ []) found ∙ sym (map-append found_of inv.0 ((topic, message) ∷ [])))),
    )

pub returns-clause-list : goal.returns-clause-list
returns-clause-list c =
    let inv = c.loop-topic.invariant in
    inv.2 ∙ ap (λ (w : Messages). map found_of w) (sym (append-nil inv.0) ∙ (ap (λ (w : Messages). inv.0 ++ w) (sym c.in-None.ensures.steps.0) ∙ inv.1))

pub returns-clause-leave : goal.returns-clause-leave
returns-clause-leave c =
    let sorted : IsStrictlySortedBy topic_cmp (keys_of c.args.self.now.messages.entries) = c.into_iter-topic-iterator.ensures.into_iter_gives.5 in
    sets_retained c.args.self.now.messages.entries sorted
