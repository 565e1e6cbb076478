-- Lemmas on what is decoded before it is handled.
use Rattle.std.proofs.Common.{◌≡◌, ◌<◌, ◌≤◌, ◌+◌, ◌-◌, ℕ, length-append, List, [], ◌∷◌, ◌++◌, length, take, drop, get_or, take-append-drop, refl, sym, subst, ap, ◌∙◌, append-nil, append_assoc, inl, inr, ◌⊎◌, Option, Some, None, arith}
use Rattle.std.proofs.lemmas.List.{map-append, take_more}
use Rattle.std.proofs.lemmas.List.Elements.{All-nil, All-cons, All-append, All-take}
use Rattle.std.proofs.Math.Seq.{take-append_seam, take-length}
use Rattle.std.specs.List.{All}
use Rattle.rs_packet.specs.declared.reply.Reply.{Reply}
use Rattle.rs_message.specs.declared.entry.Operation.{Operation}
use Rattle.rs_session.specs.declared.phase.Input.{Input}
use Rattle.rs_session.specs.declared.phase.Phase.{Phase}
use Rattle.rs_session.specs.declared.phase.Phase.TheVariants as phase
use Rattle.rs_session.specs.declared.phase.Step.TheVariants.{End}
use Rattle.rs_session.specs.Pending.{AreChanges, HasChange, IsChange, LeavesPending}
use Rattle.rs_session.specs.Gate.{Mark}
use Rattle.rs_session.specs.Points.{Given}
use Rattle.rs_session.specs.Run.{Gives, GivesAll}
use Rattle.rs_session.specs.State.{State, IsGiven, IsReplayed, step_of}
use Rattle.rs_session.proofs.Expecting.{leaves_weaker}
use Rattle.rs_server.specs.Clock.{TellsInOrder}
use Rattle.rs_server.specs.Conversation.{AllButLastHaveChanges, InputsOf, Plans, PlansNext, planned_inputs}
use Rattle.rs_server.proofs.Conversations.{front_inputs, in_order_join, in_order_none, inputs_join}

-- ---- what is planned grows

pub plans_none : (planned : List Given) (buffered : List ℕ) (told : Option (ℕ → ℕ)) → Plans planned planned buffered buffered told told
plans_none planned buffered told = ([], sym (append-nil planned), refl, in_order_none told)

pub plans_join : (p1 p2 p3 : List Given) (h1 h2 h3 : List ℕ) (c1 c2 c3 : Option (ℕ → ℕ)) → Plans p1 p2 h1 h2 c1 c2 → Plans p2 p3 h2 h3 c2 c3 → Plans p1 p3 h1 h3 c1 c3
plans_join p1 p2 p3 h1 h2 h3 c1 c2 c3 (more, e, i, m) (next, f, j, n) = (
  more ++ next,
  f ∙ ap (λ (l : List Given). l ++ next) e ∙ append_assoc p1 more next,
  subst (λ (l : List Input). InputsOf l h1 h3) (sym (map-append (λ (x : Given). x.input) more next)) (inputs_join _ _ h1 h2 h3 i j),
  subst (TellsInOrder c1 c3) (sym (map-append (λ (x : Given). x.now) more next)) (in_order_join c1 c2 c3 _ _ m n),
)

pub plans_next : (p1 p2 : List Given) (h1 h2 : List ℕ) (c1 c2 : Option (ℕ → ℕ)) → PlansNext p1 p2 h1 h2 c1 c2 → Plans p1 p2 h1 h2 c1 c2
plans_next p1 p2 h1 h2 c1 c2 (inl (e, f, g)) = ([], e ∙ sym (append-nil p1), sym f, subst (λ (x : Option (ℕ → ℕ)). TellsInOrder c1 x []) (sym g) (in_order_none c1))
plans_next p1 p2 h1 h2 c1 c2 (inr (given, e, t, m)) = (given ∷ [], e, front_inputs given.input h1 h2 t, m)

pub plans_more : (p1 p2 p3 : List Given) (h1 h2 h3 : List ℕ) (c1 c2 c3 : Option (ℕ → ℕ)) → Plans p1 p2 h1 h2 c1 c2 → PlansNext p2 p3 h2 h3 c2 c3 → Plans p1 p3 h1 h3 c1 c3
plans_more p1 p2 p3 h1 h2 h3 c1 c2 c3 p q = plans_join p1 p2 p3 h1 h2 h3 c1 c2 c3 p (plans_next p2 p3 h2 h3 c2 c3 q)

-- at most one more is planned
pub next_few : (p1 p2 : List Given) (h1 h2 : List ℕ) (c1 c2 : Option (ℕ → ℕ)) → PlansNext p1 p2 h1 h2 c1 c2 → length p2 ≤ length p1 + 1
next_few p1 p2 h1 h2 c1 c2 (inl (e, f, g)) = omega (arith, ap (λ (l : List Given). length l) e)
next_few p1 p2 h1 h2 c1 c2 (inr (given, e, t, m)) = omega (arith, ap (λ (l : List Given). length l) e, length-append p1 (given ∷ []))

front_empty : (planned more : List Given) → planned ++ more ≡ [] → planned ≡ []
front_empty [] more e = refl
front_empty (first ∷ planned) more e = absurd (cc)

back_empty : (planned more : List Given) → planned ++ more ≡ [] → more ≡ []
back_empty [] more e = e
back_empty (first ∷ planned) more e = absurd (cc)

-- if nothing is planned, nothing was planned before, and what is buffered is as it was
pub none_planned : (p1 p2 : List Given) (h1 h2 : List ℕ) (c1 c2 : Option (ℕ → ℕ)) → Plans p1 p2 h1 h2 c1 c2 → p2 ≡ [] → (p1 ≡ []) × (h2 ≡ h1)
none_planned p1 p2 h1 h2 c1 c2 (more, e, i, m) none =
    (front_empty p1 more (sym e ∙ none), sym (subst (λ (l : List Given). InputsOf (planned_inputs l) h1 h2) (back_empty p1 more (sym e ∙ none)) i))

-- ---- what may be announced

pub but_last_all : (planned : List Given) → All HasChange planned → AllButLastHaveChanges planned
but_last_all planned all = All-take HasChange (length planned - 1) planned all

but_last_more : (planned : List Given) (given : Given) → All HasChange planned → AllButLastHaveChanges (planned ++ given ∷ [])
but_last_more planned given all =
    let size : length (planned ++ given ∷ []) - 1 ≡ length planned = omega (arith, length-append planned (given ∷ [])) in
    let front : take (length (planned ++ given ∷ []) - 1) (planned ++ given ∷ []) ≡ planned = ap (λ (n : ℕ). take n (planned ++ given ∷ [])) size ∙ take-append_seam planned (given ∷ []) in
    subst (All HasChange) (sym front) all

-- behind changes one more may be planned that has none
pub but_last_next : (p1 p2 : List Given) (h1 h2 : List ℕ) (c1 c2 : Option (ℕ → ℕ)) → PlansNext p1 p2 h1 h2 c1 c2 → All HasChange p1 → AllButLastHaveChanges p2
but_last_next p1 p2 h1 h2 c1 c2 (inl (e, f, g)) all = subst AllButLastHaveChanges (sym e) (but_last_all p1 all)
but_last_next p1 p2 h1 h2 c1 c2 (inr (given, e, t, m)) all = subst AllButLastHaveChanges (sym e) (but_last_more p1 given all)

pub but_last_first : (p1 p2 : List Given) (h1 h2 : List ℕ) (c1 c2 : Option (ℕ → ℕ)) → PlansNext p1 p2 h1 h2 c1 c2 → p1 ≡ [] → AllButLastHaveChanges p2
but_last_first p1 p2 h1 h2 c1 c2 p none = but_last_next p1 p2 h1 h2 c1 c2 p (subst (All HasChange) (sym none) (All-nil HasChange))

pub all_more : (planned : List Given) (given : Given) → All HasChange planned → HasChange given → All HasChange (planned ++ given ∷ [])
all_more planned given all last = All-append HasChange planned (given ∷ []) all (All-cons HasChange given [] last (All-nil HasChange))

-- if the last one has a change too, all have
pub all_with_last : (planned : List Given) (last : Given) → 0 < length planned → last ≡ get_or planned (length planned - 1) last → HasChange last → AllButLastHaveChanges planned → All HasChange planned
all_with_last planned last some is has front =
    let there : length planned - 1 < length planned = omega (arith, some) in
    let size : length planned - 1 + 1 ≡ length planned = omega (arith, some) in
    let split : take (length planned - 1 + 1) planned ≡ take (length planned - 1) planned ++ get_or planned (length planned - 1) last ∷ [] = take_more planned (length planned - 1) last there in
    let whole : planned ≡ take (length planned - 1) planned ++ last ∷ [] =
    sym (take-length planned) ∙ ap (λ (n : ℕ). take n planned) (sym size) ∙ split ∙ ap (λ (x : Given). take (length planned - 1) planned ++ x ∷ []) (sym is) in
    subst (All HasChange) (sym whole) (all_more (take (length planned - 1) planned) last front has)

-- ---- what is expected

pub expected_more : (planned more : List Given) (changes : List Operation) → AreChanges planned changes → AreChanges (planned ++ more) changes
expected_more planned more [] h = tt
expected_more [] more (operation ∷ operations) h = absurd h
expected_more (given ∷ planned) more (operation ∷ operations) h = (h.0, expected_more planned more operations h.1)

pub first_changes : (givens : List Given) (changes : List Operation) → AreChanges (take (length changes) givens) changes → AreChanges givens changes
first_changes givens changes h =
    let n : ℕ = length changes in
    subst (λ (l : List Given). AreChanges l changes) (take-append-drop n givens) (expected_more (take n givens) (drop n givens) changes h)

pub expected_planned : (p1 p2 : List Given) (h1 h2 : List ℕ) (c1 c2 : Option (ℕ → ℕ)) (changes : List Operation) → Plans p1 p2 h1 h2 c1 c2 → AreChanges p1 changes → AreChanges p2 changes
expected_planned p1 p2 h1 h2 c1 c2 changes (more, e, i, m) h = subst (λ (l : List Given). AreChanges l changes) (sym e) (expected_more p1 more changes h)

none_long : (given : Given) (givens : List Given) → length (given ∷ givens) ≡ 0 → ⊥
none_long given givens e = omega (arith, e)

pub one_change_more : (givens : List Given) (changes : List Operation) (given : Given) (operation : Operation) → length givens ≡ length changes → AreChanges givens changes → IsChange given operation → AreChanges (givens ++ given ∷ []) (changes ++ operation ∷ [])
one_change_more [] [] given operation e h is = (is, tt)
one_change_more [] (c ∷ changes) given operation e h is = absurd h
one_change_more (g ∷ givens) [] given operation e h is = absurd (none_long g givens e)
one_change_more (g ∷ givens) (c ∷ changes) given operation e h is = (h.0, one_change_more givens changes given operation (omega (arith, e)) h.1 is)

-- further changes behind these
pub changes_behind : (givens : List Given) (first more : List Operation) → AreChanges givens first → AreChanges (drop (length first) givens) more → AreChanges givens (first ++ more)
changes_behind givens [] more h next = next
changes_behind [] (operation ∷ first) more h next = absurd h
changes_behind (given ∷ givens) (operation ∷ first) more h next = (h.0, changes_behind givens first more h.1 next)

pub announced : (givens : List Given) (changes old new : List Operation) → AreChanges (drop (length old) givens) changes → (new ≡ old ++ changes) ⊎ (new ≡ old) → AreChanges givens old → AreChanges givens new
announced givens changes old new next (inl more) h = subst (AreChanges givens) (sym more) (changes_behind givens old changes h next)
announced givens changes old new next (inr same) h = subst (AreChanges givens) (sym same) h

-- ---- a session that has ended stays so while its replies are given

replayed_ends : (now : ℕ) (old : Phase) (given : Option Reply) (new : Phase) → IsReplayed now old given new → step_of old ≡ End → step_of new ≡ End
replayed_ends now phase.Before given new h e = absurd (cc)
replayed_ends now (phase.Open o) given new h e = absurd (cc)
replayed_ends now (phase.Ended closing) given new h e = ap (λ (x : Phase). step_of x) h.1

given_ends : (now : ℕ) (due : Option Reply) (old : State) (given later : Option Reply) (new : State) → IsGiven now due old given later new → step_of old.phase ≡ End → step_of new.phase ≡ End
given_ends now (Some first) old given later new h e = ap (λ (s : State). step_of s.phase) h.2 ∙ e
given_ends now None old given later new h e = replayed_ends now old.phase given new.phase h.2 e

gives_end : (now : ℕ) (due : Option Reply) (old : State) (replies : List Reply) (left : Option Reply) (new : State) → Gives now due old replies left new → step_of old.phase ≡ End → step_of new.phase ≡ End
gives_end now due old [] left new (p, q) e = ap (λ (s : State). step_of s.phase) q ∙ e
gives_end now due old (reply ∷ replies) left new (later, mid, given, rest) e = gives_end now later mid replies left new rest (given_ends now due old _ later mid given e)

all_end : (now : ℕ) (due : Option Reply) (old : State) (replies : List Reply) (new : State) → GivesAll now due old replies new → step_of old.phase ≡ End → step_of new.phase ≡ End
all_end now due old replies new h e = given_ends now h.left h.last _ _ new h.none_left (gives_end now due old replies h.left h.last h.given e)

pub exchange_pending : {G : Type 0} (pending : G → List Operation) (mark : G → Mark) (given : Given) (old mid new : G) (between to : State) (due : Option Reply) (replies : List Reply) → new ≡ mid → GivesAll given.now due between replies to
    → LeavesPending given (pending old) (pending mid) ((mark mid ≡ mark old) × (step_of between.phase ≡ End)) → LeavesPending given (pending old) (pending new) ((mark new ≡ mark old) × (step_of to.phase ≡ End))
exchange_pending {G} pending mark given old mid new between to due replies e all h =
    subst (λ (x : G). LeavesPending given (pending old) (pending x) ((mark x ≡ mark old) × (step_of to.phase ≡ End))) (sym e)
    (leaves_weaker given (pending old) (pending mid) _ ((mark mid ≡ mark old) × (step_of to.phase ≡ End)) (λ k. (k.0, all_end given.now due between replies to all k.1)) h)
