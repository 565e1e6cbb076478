-- What each line was told, one job after the other.
use Rattle.std.proofs.Common.{◌≡◌, ◌≢◌, ◌==◌, ℕ, ◌-◌, ◌<◌, ◌≤◌, Bool, true, false, List, [], ◌∷◌, ◌++◌, length, replicate, refl, sym, ap, subst, ◌∙◌, append_assoc, length-append, Option, Some, None, arith}
use Rattle.std.proofs.lemmas.Bool.Decides.{nat_tests}
use Rattle.std.proofs.lemmas.List.{append-nil, get_or-replicate, get_or-set_other, get_or-set_same, length-replicate, length-set}
use Rattle.std.proofs.lemmas.List.Elements.{filter-append}
use Rattle.rs_message.specs.declared.entry.Entry.{Entry}
use Rattle.rs_intake_queue.specs.Changes.{AreOf}
use Rattle.rs_intake_line.specs.Done.{AreSent, AreTold, Outcome, ReplyValue, Told, replies_for, replies_to, untold, way_to}
use Rattle.rs_intake_line.specs.Sending.{AreSentBehind, AreSentNext, AreSentTo}
use Rattle.rs_intake_queue.specs.declared.waiting.Gone.{Gone}
use Rattle.rs_intake_queue.proofs.Queues.{else_is, then_is}

-- ---- one way back

-- no replies were sent
pub sent_none : (told : Told) → AreSentNext told [] told
sent_none told = go told.gone told.sent
  where
    go : (gone : Option Gone) (sent : List ReplyValue) → AreSentBehind gone sent [] (record { sent = sent; gone = gone })
    go None sent = ([], sym (append-nil sent), refl)
    go (Some gone) sent = refl

-- more replies were sent
pub sent_next : (a b c : Told) (replies more : List ReplyValue) → AreSentNext a replies b → AreSentNext b more c → AreSentNext a (replies ++ more) c
sent_next a b c replies more first next = go a.gone b.gone c.gone a.sent b.sent c.sent first next
  where
    go : (ga gb gc : Option Gone) (sa sb sc : List ReplyValue) → AreSentBehind ga sa replies (record { sent = sb; gone = gb }) → AreSentBehind gb sb more (record { sent = sc; gone = gc })
        → AreSentBehind ga sa (replies ++ more) (record { sent = sc; gone = gc })
    go None None None sa sb sc first next =
        let xs = first.0 in
        let ys = next.0 in
        (xs ++ ys, next.1 ∙ (ap (λ l. l ++ ys) first.1 ∙ append_assoc sa xs ys), ap (λ l. l ++ ys) first.2 ∙ ap (λ l. replies ++ l) next.2)
    go None None (Some gone) sa sb sc first next =
        let xs = first.0 in
        let ys = next.0 in
        let rest = next.2 in (
          xs ++ ys,
          next.1 ∙ (ap (λ l. l ++ ys) first.1 ∙ append_assoc sa xs ys),
          (rest.0, rest.1, ap (λ l. l ++ more) (sym first.2) ∙ (ap (λ l. xs ++ l) rest.2 ∙ sym (append_assoc xs ys rest.0))),
        )
    go None (Some gone) gc sa sb sc first next =
        let xs = first.0 in
        let rest = first.2 in
        let some = rest.1 in
        let n = length-append rest.0 more in
        let P : Told → Type 0 = λ t. AreSentBehind None sa (replies ++ more) t in
        subst P (sym next) (xs, first.1, (rest.0 ++ more, omega (arith, n, some), ap (λ l. l ++ more) rest.2 ∙ append_assoc xs rest.0 more))
    go (Some gone) gb gc sa sb sc first next = let P : Told → Type 0 = λ t. AreSentNext t more (record { sent = sc; gone = gc }) in subst P first next

-- what was sent behind all that was due before
sent_behind : (due more : List ReplyValue) (before after : Told) → AreSent due before.sent before.gone → AreSentNext before more after → AreSent (due ++ more) after.sent after.gone
sent_behind due more before after are next =
    let all : AreSentNext untold (due ++ more) after = sent_next untold before after due more (before.sent, refl, are) next in
    let P : List ReplyValue → Type 0 = λ l. AreSent (due ++ more) l after.gone in
    subst P (sym all.1) all.2

-- ---- all ways back

replies_for_all : (place : ℕ) (es : List Entry) (outcomes : List Outcome) → AreOf place es → replies_for place (replies_to es outcomes) ≡ replies_to es outcomes
replies_for_all place [] outcomes of = refl
replies_for_all place (e ∷ es) [] of = refl
replies_for_all place (e ∷ es) (a ∷ outcomes) of =
    let same = of.0 in
    let is : (e.origin.place == place) ≡ true = grind (arith, nat_tests) in
    let reply : ReplyValue = record { origin = e.origin; outcome = a } in
    let rest = replies_for place (replies_to es outcomes) in
    then_is (e.origin.place == place) (reply ∷ rest) rest is ∙ ap (λ l. reply ∷ l) (replies_for_all place es outcomes of.1)

replies_for_none : (place from : ℕ) (es : List Entry) (outcomes : List Outcome) → place ≢ from → AreOf from es → replies_for place (replies_to es outcomes) ≡ []
replies_for_none place from [] outcomes other of = refl
replies_for_none place from (e ∷ es) [] other of = refl
replies_for_none place from (e ∷ es) (a ∷ outcomes) other of =
    let same = of.0 in
    let apart : e.origin.place ≢ place = λ is. other (sym is ∙ same) in
    let is : (e.origin.place == place) ≡ false = grind (arith, nat_tests) in
    let reply : ReplyValue = record { origin = e.origin; outcome = a } in
    let rest = replies_for place (replies_to es outcomes) in
    else_is (e.origin.place == place) (reply ∷ rest) rest is ∙ replies_for_none place from es outcomes other of.1

replies_for-append : (place : ℕ) (xs ys : List ReplyValue) → replies_for place (xs ++ ys) ≡ replies_for place xs ++ replies_for place ys
replies_for-append place xs ys = filter-append (λ (r : ReplyValue). r.origin.place == place) xs ys

-- nothing is due
pub told_none : (places : ℕ) (ways : List Told) → ways ≡ replicate places untold → AreTold places [] ways
told_none places ways new = record {
  count = ap length new ∙ length-replicate places untold;
  each = λ place low high.
      let way : way_to place ways ≡ untold = ap (way_to place) new ∙ get_or-replicate places (place - 1) untold untold (omega (arith, low, high)) in
      let P : Told → Type 0 = λ w. AreSent [] w.sent w.gone in
      subst P (sym way) refl;
}

-- the replies to a job of this place are due as well
pub told_more : (places place : ℕ) (replies : List ReplyValue) (entries : List Entry) (outcomes : List Outcome) (ways ways' : List Told) → 0 < place → place ≤ places → AreOf place entries
    → AreTold places replies ways → AreSentTo place ways (replies_to entries outcomes) ways' → AreTold places (replies ++ replies_to entries outcomes) ways'
told_more places place replies entries outcomes ways ways' low high of t to = record {
  count = ap length to.2 ∙ (length-set ways (place - 1) to.0 ∙ t.count);
  each = λ q some few. go q some few (q == place) refl;
}
  where
    go : (q : ℕ) → 0 < q → q ≤ places → (b : Bool) → (q == place) ≡ b
        → AreSent (replies_for q (replies ++ replies_to entries outcomes)) (way_to q ways').sent (way_to q ways').gone
    go q some few true is =
        let same : q ≡ place = grind (arith, nat_tests, is) in
        let more = replies_to entries outcomes in
        let due = replies_for place replies in
        let told = to.0 in
        let count = t.count in
        let here : AreSent (due ++ more) told.sent told.gone = sent_behind due more (way_to place ways) told (t.each place low high) to.1 in
        let all : replies_for place (replies ++ more) ≡ due ++ more = replies_for-append place replies more ∙ ap (λ l. due ++ l) (replies_for_all place entries outcomes of) in
        let way : way_to place ways' ≡ told = ap (way_to place) to.2 ∙ get_or-set_same ways (place - 1) told untold (omega (arith, count, low, high)) in
        let P : List ReplyValue → Type 0 = λ l. AreSent l told.sent told.gone in
        let Q : Told → Type 0 = λ w. AreSent (replies_for place (replies ++ more)) w.sent w.gone in
        let R : ℕ → Type 0 = λ p. AreSent (replies_for p (replies ++ more)) (way_to p ways').sent (way_to p ways').gone in
        subst R (sym same) (subst Q (sym way) (subst P (sym all) here))
    go q some few false is =
        let other : q ≢ place = λ e. grind (arith, nat_tests, is, e) in
        let more = replies_to entries outcomes in
        let due = replies_for q replies in
        let all : replies_for q (replies ++ more) ≡ due = replies_for-append q replies more ∙ (ap (λ l. due ++ l) (replies_for_none q place entries outcomes other of) ∙ append-nil due) in
        let way : way_to q ways' ≡ way_to q ways = ap (way_to q) to.2 ∙ get_or-set_other ways (place - 1) (q - 1) to.0 untold (λ e. other (omega (arith, e, some, low))) in
        let P : List ReplyValue → Type 0 = λ l. AreSent l (way_to q ways).sent (way_to q ways).gone in
        let Q : Told → Type 0 = λ w. AreSent (replies_for q (replies ++ more)) w.sent w.gone in
        subst Q (sym way) (subst P (sym all) (t.each q some few))
