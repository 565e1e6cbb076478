use Rattle.std.proofs.Common.{◌≡◌, ◌<◌, ◌∷◌, ◌++◌, [], List, length, sym, ap, subst, ◌∙◌, append_assoc}
use Rattle.std.proofs.lemmas.List.{append-nil, nil_from_length}
use Rattle.rs_intake_queue.specs.declared.rule.SentFrom.{SentFrom}
use Rattle.rs_intake_queue.specs.Ends.{Closed}
use Rattle.rs_intake.specs.Settling.{Covers}
use Rattle.rs_intake.proofs.Sums.{covers_more}
use Rattle.rs_intake.proofs.settling.join_all.Goals as goal

pub loop-end-preserved : goal.loop-end-preserved
loop-end-preserved g c =
    let i = c.loop-end.invariant in
    let end = c.in-Some.end in
    let yielded = c.loop-end.yielded in
    let sent = c.into_parts-sender.ensures.sent in
    let same = c.compare.ensures.same in
    let whole = ap (λ r. r.whole) same ∙ c.join.ensures.2 in
    let W : List SentFrom → Type 0 = λ w. Covers w (yielded ++ end ∷ []) in (
      ap (λ r. r.entries) same ∙ (c.join.ensures.0 ∙ i.0),
      subst W (sym whole) (covers_more c.loop-end.taken.whole yielded _ end sent.1 sent.2 i.1),
      (λ some. c.compare.ensures.balance),
      append_assoc yielded (end ∷ []) _ ∙ (ap (λ l. yielded ++ l) (sym c.in-Some.ensures.steps.0) ∙ i.3),
      ap (λ r. r.ends) same ∙ (c.join.ensures.1 ∙ i.4),
    )

pub returns-clause-balance : goal.returns-clause-balance
returns-clause-balance g c =
    let i = c.loop-end.invariant in
    let none : c.loop-end.end-iterator.rest.items ≡ [] = nil_from_length _ (sym c.loop-end.end-iterator.rest.ok.0 ∙ c.in-None.ensures.steps.0) in
    let all : c.loop-end.yielded ≡ c.args.ends.items = sym (append-nil c.loop-end.yielded) ∙ (ap (λ l. c.loop-end.yielded ++ l) (sym none) ∙ i.3) in
    (λ some.
    let b = i.2 (let P : List Closed → Type 0 = λ l. 0 < length l in subst P (sym all) some) in
    let C : List Closed → Type 0 = λ l. Covers c.loop-end.taken.whole l in
    (b.0, (b.1.0, subst C all i.1 _ b.1.1, b.1.2)))
