-- Lemmas on runs.
use Rattle.std.proofs.Common.{ℕ, List, [], ◌∷◌, ◌++◌, refl, sym, subst, ap, ◌∙◌, append-nil, Option, Some}
use Rattle.std.proofs.lemmas.List.Elements.{All-weaker}
use Rattle.rs_packet.specs.declared.reply.Reply.{Reply}
use Rattle.rs_message.specs.declared.entry.Entry.{Entry}
use Rattle.rs_session.specs.Gate.{Mark, Extends}
use Rattle.rs_session.specs.State.{State, IsGiven}
use Rattle.rs_session.proofs.Rows.{prefix_trans}
use Rattle.rs_session.specs.Points.{Point}
use Rattle.rs_session.specs.Run.{Exchange, Gives, IsExchange, Run, IsOfGate, AreOfGate}

pub run_grows : (from to : Point State) (exchanges : List Exchange) → Run from exchanges to → Extends to.seen from.seen
run_grows from to [] e = ([], ap (λ (p : Point State). p.seen) e ∙ sym (append-nil from.seen))
run_grows from to (exchange ∷ exchanges) h = prefix_trans from.seen exchange.to.seen to.seen h.0.grows (run_grows exchange.to to exchanges h.1)

-- a run goes on by one exchange
pub run_more : (from mid : Point State) (exchanges : List Exchange) (exchange : Exchange) → Run from exchanges mid → IsExchange mid exchange → Run from (exchanges ++ exchange ∷ []) exchange.to
run_more from mid [] exchange e h = (subst (λ (p : Point State). IsExchange p exchange) e h, refl)
run_more from mid (t ∷ ts) exchange (a, b) h = (a, run_more t.to mid ts exchange b h)

-- one more reply is given
pub gives_more : (now : ℕ) (due : Option Reply) (old : State) (replies : List Reply) (left : Option Reply) (mid : State) (answer : Reply) (later : Option Reply) (new : State)
    → Gives now due old replies left mid → IsGiven now left mid (Some answer) later new → Gives now due old (replies ++ answer ∷ []) later new
gives_more now due old [] left mid answer later new (p, q) h =
    (later, new, subst (λ (d : Option Reply). IsGiven now d old (Some answer) later new) p (subst (λ (s : State). IsGiven now left s (Some answer) later new) q h), (refl, refl))
gives_more now due old (r ∷ rs) left mid answer later new (a, b, c, d) h = (a, b, c, gives_more now a b rs left mid answer later new d h)

pub of_gate_more : (stands_at : Mark → List Entry → Type 0) (exchanges : List Exchange) (exchange : Exchange) → AreOfGate stands_at exchanges → IsOfGate stands_at exchange → AreOfGate stands_at (exchanges ++ exchange ∷ [])
of_gate_more stands_at [] exchange h last = (last, tt)
of_gate_more stands_at (t ∷ ts) exchange (a, b) last = (a, of_gate_more stands_at ts exchange b last)

pub of_gate_weaker : (P Q : Mark → List Entry → Type 0) (exchanges : List Exchange) → ((mark : Mark) (list : List Entry) → P mark list → Q mark list) → AreOfGate P exchanges → AreOfGate Q exchanges
of_gate_weaker P Q [] f h = tt
of_gate_weaker P Q (t ∷ ts) f (a, b) =
    (record { answered = All-weaker (P t.to.mark) (Q t.to.mark) (f t.to.mark) t.answered a.answered; seen = f t.to.mark t.to.seen a.seen }, of_gate_weaker P Q ts f b)
