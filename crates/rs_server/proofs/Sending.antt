-- Lemmas on what the exchanges of a run send.
use Rattle.std.proofs.Common.{◌≡◌, ⊎_elim, ℕ, List, [], ◌∷◌, ◌++◌, Option, Some, None, refl, sym, ap, subst, ◌∙◌, append_assoc}
use Rattle.rs_packet.specs.declared.packet.Packet.TheVariants as packet
use Rattle.rs_packet.specs.declared.packet.Publish.{Publish}
use Rattle.rs_packet.specs.declared.reply.Reply.{Reply}
use Rattle.rs_message.specs.declared.entry.Entry.{Entry}
use Rattle.rs_message.specs.declared.entry.Operation.{Operation}
use Rattle.rs_session.specs.declared.open.Open.{Open}
use Rattle.rs_session.specs.declared.open.Effect.{Effect}
use Rattle.rs_session.specs.declared.phase.Input.TheVariants.{Whole}
use Rattle.rs_session.specs.declared.phase.Phase.{Phase}
use Rattle.rs_session.specs.declared.phase.Phase.TheVariants as phase
use Rattle.rs_session.specs.Gate.{Mark, Sends, entry_by}
use Rattle.rs_session.specs.State.{State}
use Rattle.rs_session.specs.Table.{IsHanded, OpenCase, OpenRow, Case, SessionRow, With_method, With_will, Connect_refused, Accepted, Connack_too_long, Other_version, Unexpected, In_session, Over, Faulty, With_alias, Bad_topic, Sent_again, Too_many_unreleased, Not_retained, Stored, Topic_unread, Not_stored, Uncertain, Gate_closed, Released, Wrong_acknowledgement, Acknowledged, Shared_no_local, Not_subscribed, Subscribed, Not_unsubscribed, Unsubscribed, Connected_twice, Pinged, Disconnected}
use Rattle.rs_session.specs.Points.{Point, with_state}
use Rattle.rs_session.specs.Run.{Exchange, GivesAll, Run}
use Rattle.rs_session.specs.Stored.{IsToldStored}
use Rattle.rs_session.specs.Replay.{IsOpen}
use Rattle.rs_session.specs.Sent.{IsPublication, IsSentBy, SendsPublications}
use Rattle.rs_server.proofs.Keeping.{IsStored, told_row}
use Rattle.rs_server.proofs.Replaying.{shut}
use Rattle.rs_session.proofs.Submitting.{nothing_sent}

pub none_sent : (before after : Mark) → after ≡ before → Sends before.sent [] after.sent
none_sent before after same = let P : Mark → Type 0 = λ m. Sends before.sent [] m.sent in subst P (sym same) (nothing_sent before.sent)

pub both_sent : (a b c : Option (List Entry)) (xs ys : List Entry) → Sends a xs b → Sends b ys c → Sends a (xs ++ ys) c
both_sent None None None xs ys p q = tt
both_sent None None (Some c) xs ys p q = absurd q
both_sent None (Some b) c xs ys p q = absurd p
both_sent (Some a) None c xs ys p q = absurd p
both_sent (Some a) (Some b) None xs ys p q = absurd q
both_sent (Some a) (Some b) (Some c) xs ys p q = q ∙ (ap (λ l. l ++ ys) p ∙ append_assoc a xs ys)

-- no publication was told stored
abbrev NoneTold : Point State → Exchange → Type 0
NoneTold from exchange = (o : Open) (p : Publish) (answer : Reply) → from.state.phase ≡ phase.Open o → IsToldStored o exchange p answer → ⊥

-- none was in a session that is not open
none_told : (from : Point State) (exchange : Exchange) (other : Phase) → from.state.phase ≡ other → (IsOpen other → ⊥) → NoneTold from exchange
none_told from exchange other is closed o p answer open_ told = shut (phase.Open o) other (sym open_ ∙ is) tt closed

publication : (from : Point State) (exchange : Exchange) (at left : Open) (p : Publish) (topic : List ℕ) (operation : Operation) → from.state.phase ≡ phase.Open at → exchange.given.input ≡ Whole (packet.Publish p)
    → IsHanded p topic operation exchange.given.now (with_state from at) (with_state exchange.to left) → IsPublication from exchange (entry_by operation exchange.to.mark)
publication from exchange at left p topic operation here i s =
    record { session = at; publish = p; topic = topic; is_open = here; input = i; new = s.taken.new; is_topic = s.is_topic; changes = s.changes; origin = refl }

abbrev Sent : Point State → Exchange → Type 0
Sent from exchange = (first : List Entry) × Sends from.mark.sent first exchange.to.mark.sent × IsSentBy from exchange first

-- what was handed over was sent or not, and the client was not told that it is stored
handed : (from : Point State) (exchange : Exchange) (at left : Open) (p : Publish) (topic : List ℕ) (operation : Operation) → from.state.phase ≡ phase.Open at → exchange.given.input ≡ Whole (packet.Publish p)
    → IsHanded p topic operation exchange.given.now (with_state from at) (with_state exchange.to left) → NoneTold from exchange → Sent from exchange
handed from exchange at left p topic operation here i s told = ⊎_elim (λ h. ([], h, told)) (λ h. (entry_by operation exchange.to.mark ∷ [], h, publication from exchange at left p topic operation here i s)) s.sent

row_sends : (case : OpenCase) (from : Point State) (exchange : Exchange) (at left : Open) (effect : Effect) → from.state.phase ≡ phase.Open at
    → OpenRow case exchange.given (with_state from at) exchange.answered effect (with_state exchange.to left)
    → ((o : Open) (p : Publish) (answer : Reply) → from.state.phase ≡ phase.Open o → IsToldStored o exchange p answer → IsStored case) → Sent from exchange
row_sends Connected_twice from exchange at left effect here (c, i, out, unchanged) told = ([], none_sent from.mark exchange.to.mark unchanged.none_used, told)
row_sends Faulty from exchange at left effect here (f, i, out, unchanged) told = ([], none_sent from.mark exchange.to.mark unchanged.none_used, told)
row_sends With_alias from exchange at left effect here (p, i, a, out, unchanged) told = ([], none_sent from.mark exchange.to.mark unchanged.none_used, told)
row_sends Bad_topic from exchange at left effect here (p, f, i, a, t, other, out, unchanged) told = ([], none_sent from.mark exchange.to.mark unchanged.none_used, told)
row_sends Sent_again from exchange at left effect here (p, i, a, t, unreleased, out, unchanged) told = ([], none_sent from.mark exchange.to.mark unchanged.none_used, told)
row_sends Too_many_unreleased from exchange at left effect here (p, i, a, t, many, out, unchanged) told = ([], none_sent from.mark exchange.to.mark unchanged.none_used, told)
row_sends Not_retained from exchange at left effect here (p, topic, i, taken, t, r, out, u, same) told = ([], none_sent from.mark exchange.to.mark u, told)
row_sends Stored from exchange at left effect here (p, topic, operation, i, s, submitted, out, same) told =
    (entry_by operation exchange.to.mark ∷ [], submitted.sent, publication from exchange at left p topic operation here i s)
row_sends Topic_unread from exchange at left effect here (p, i, taken, t, out, unchanged) told = ([], none_sent from.mark exchange.to.mark unchanged.none_used, told)
row_sends Not_stored from exchange at left effect here (p, topic, operation, i, s, out, same) told = handed from exchange at left p topic operation here i s told
row_sends Uncertain from exchange at left effect here (p, topic, operation, i, s, out, same) told = handed from exchange at left p topic operation here i s told
row_sends Gate_closed from exchange at left effect here (p, topic, operation, i, s, out, same) told = handed from exchange at left p topic operation here i s told
row_sends Released from exchange at left effect here (a, i, out, u, same) told = ([], none_sent from.mark exchange.to.mark u, told)
row_sends Wrong_acknowledgement from exchange at left effect here (p, ack, id, i, is, wrong, out, unchanged) told = ([], none_sent from.mark exchange.to.mark unchanged.none_used, told)
row_sends Acknowledged from exchange at left effect here (p, ack, id, answer, i, is, step, out, u, same) told = ([], none_sent from.mark exchange.to.mark u, told)
row_sends Shared_no_local from exchange at left effect here (s, i, n, out, unchanged) told = ([], none_sent from.mark exchange.to.mark unchanged.none_used, told)
row_sends Not_subscribed from exchange at left effect here (s, i, n, out, unchanged) told = ([], none_sent from.mark exchange.to.mark unchanged.none_used, told)
row_sends Subscribed from exchange at left effect here (s, codes, i, n, grants, out, u) told = ([], none_sent from.mark exchange.to.mark u, told)
row_sends Not_unsubscribed from exchange at left effect here (u, i, out, unchanged) told = ([], none_sent from.mark exchange.to.mark unchanged.none_used, told)
row_sends Unsubscribed from exchange at left effect here (u, i, out, m, same) told = ([], none_sent from.mark exchange.to.mark m, told)
row_sends Pinged from exchange at left effect here (i, out, unchanged) told = ([], none_sent from.mark exchange.to.mark unchanged.none_used, told)
row_sends Disconnected from exchange at left effect here (code, i, out, unchanged) told = ([], none_sent from.mark exchange.to.mark unchanged.none_used, told)

exchange_sends : (case : Case) (from : Point State) (exchange : Exchange) (due : Option Reply) (mid : State) → SessionRow case exchange.given from exchange.answered due (with_state exchange.to mid)
    → GivesAll exchange.given.now due mid exchange.replies exchange.to.state → Sent from exchange
exchange_sends With_method from exchange due mid (c, i, before, m, refused) g = ([], none_sent from.mark exchange.to.mark refused.none_used, none_told from exchange phase.Before before (λ n. n))
exchange_sends With_will from exchange due mid (c, i, before, m, w, refused) g = ([], none_sent from.mark exchange.to.mark refused.none_used, none_told from exchange phase.Before before (λ n. n))
exchange_sends Connect_refused from exchange due mid (c, i, before, m, w, refused) g = ([], none_sent from.mark exchange.to.mark refused.none_used, none_told from exchange phase.Before before (λ n. n))
exchange_sends Accepted from exchange due mid (c, i, before, m, w, short, u, d, same) g = ([], none_sent from.mark exchange.to.mark u, none_told from exchange phase.Before before (λ n. n))
exchange_sends Connack_too_long from exchange due mid (c, i, before, m, w, long, u, d, same) g = ([], none_sent from.mark exchange.to.mark u, none_told from exchange phase.Before before (λ n. n))
exchange_sends Other_version from exchange due mid (i, before, u, d, same) g = ([], none_sent from.mark exchange.to.mark u, none_told from exchange phase.Before before (λ n. n))
exchange_sends Unexpected from exchange due mid (i, before, u, d, same) g = ([], none_sent from.mark exchange.to.mark u, none_told from exchange phase.Before before (λ n. n))
exchange_sends In_session from exchange due mid (at, left, effect, here, (case, none, row), d, same) g =
    row_sends case from exchange at left effect here row (λ o p answer is told. (told_row from exchange o p answer at left effect due mid case is told here row d same g).0)
exchange_sends Over from exchange due mid (closing, is, u, d, same) g = ([], none_sent from.mark exchange.to.mark u, none_told from exchange (phase.Ended closing) is (λ n. n))

pub run_sends : (from to : Point State) (exchanges : List Exchange) → Run from exchanges to → SendsPublications from exchanges to
run_sends from to [] e = record { entries = []; sent = none_sent from.mark to.mark (ap (λ (p : Point State). p.mark) e); publications = refl }
run_sends from to (exchange ∷ exchanges) (t, rest) =
    let (first, sends, by) = exchange_sends t.case from exchange t.due t.mid t.row.1 t.all_given in
    let later = run_sends exchange.to to exchanges rest in
    record { entries = first ++ later.entries; sent = both_sent from.mark.sent exchange.to.mark.sent to.mark.sent first later.entries sends later.sent; publications = (first, later.entries, refl, by, later.publications) }
