-- What a submit leaves of a gate over a seat and its line.
use Rattle.std.proofs.Common.{◌≡◌, ◌⊎◌, ℕ, ◌+◌, List, [], ◌∷◌, ◌++◌, length, refl, inl, inr, sym, ap, subst, ◌∙◌, Some, arith}
use Rattle.std.specs.Prelude.{Result, Err}
use Rattle.std.proofs.lemmas.List.{map-append}
use Rattle.rs_message.specs.declared.entry.Entry.{Entry}
use Rattle.rs_message.specs.declared.entry.Operation.{Operation}
use Rattle.rs_message.specs.declared.fault.SubmitFault.{SubmitFault}
use Rattle.rs_message.specs.declared.fault.SubmitFault.TheVariants.{Strange}
use Rattle.rs_message.specs.declared.fault.SubmitFault.TheVariants as submit_fault
use Rattle.rs_session.specs.Gate.{Mark, Sends, Submits, TakesPending, UsesIfOpen, entry_by}
use Rattle.rs_intake_queue.specs.Changes.{entry_at, numbered}
use Rattle.rs_intake_line.specs.Lines.{IsAheadAfter, IsOther, Line}
use Rattle.rs_intake_line.specs.Refusals.{IsRefused, IsUnsent}
use Rattle.rs_places_steps.specs.Shared.{SharedValue, operations_of}
use Rattle.rs_places_steps.proofs.Receipts.{none_handed_over}
use Rattle.rs_places.specs.Gates.{IsOtherPending, gate_of, handed_on, mark_of}

-- a submit to which no reply came, or that the writer holds, used a serial
pub used_if_open : (before after : Line) (e : Entry) (fault : SubmitFault) → IsRefused before after e fault → UsesIfOpen (mark_of before) (mark_of after) (Err fault)
used_if_open before after e submit_fault.Full refused = tt
used_if_open before after e submit_fault.NoMemory refused = tt
used_if_open before after e submit_fault.Strange refused = tt
used_if_open before after e submit_fault.Closed refused = tt
used_if_open before after e submit_fault.Open (inl unsent) = absurd (not_unsent before.serial after unsent.2)
  where
    not_unsent : (serial : ℕ) (after : Line) → IsUnsent serial after submit_fault.Open → ⊥
    not_unsent serial after (inl (full, last)) = absurd (cc (full))
    not_unsent serial after (inr (inl none)) = absurd (cc (none))
    not_unsent serial after (inr (inr closed)) = let is = closed.0 in absurd (cc (is))
used_if_open before after e submit_fault.Open (inr (inl sent)) = let next = sent.0.0 in omega (arith, next)
used_if_open before after e submit_fault.Open (inr (inr (inl sent))) = let next = sent.0.0 in omega (arith, next)
used_if_open before after e submit_fault.Open (inr (inr (inr mistaken))) = let strange = mistaken.4 in absurd (cc (strange))

-- what a refused submit leaves
pub submits_err : (operation : Operation) (old new : Mark) (outcome : Result (Unit {0}) SubmitFault) (fault : SubmitFault) (seen : List Entry) → outcome ≡ Err fault → UsesIfOpen old new (Err fault) → Submits operation old new outcome seen seen
submits_err operation old new outcome fault seen is used =
    subst (λ (a : Result (Unit {0}) SubmitFault). Submits operation old new a seen seen) (sym is)
    (record { handed_over = none_handed_over operation new seen seen refl; submitted = tt; used = used })

pub sends_it : (operation : Operation) (before : Mark) (old new : Line) → mark_of old ≡ before → new.place ≡ old.place → new.sent ≡ old.sent ++ entry_at old.place new.serial operation ∷ []
    → Sends before.sent (entry_by operation (mark_of new) ∷ []) (mark_of new).sent
sends_it operation before old new is place adds =
    let P : Mark → Type 0 = λ m. Sends m.sent (entry_by operation (mark_of new) ∷ []) (Some new.sent) in
    let Q : ℕ → Type 0 = λ p. new.sent ≡ old.sent ++ entry_at p new.serial operation ∷ [] in
    subst P is (subst Q (sym place) adds)

-- ---- what is ahead

pub other_pending : (ahead : List Entry) (operation : Operation) → IsOther ahead operation → IsOtherPending (operations_of ahead) operation
other_pending [] operation other = absurd other
other_pending (e ∷ es) operation other = other

operations_numbered : (place serial : ℕ) (os : List Operation) → operations_of (numbered place serial os) ≡ os
operations_numbered place serial [] = refl
operations_numbered place serial (o ∷ os) = ap (λ l. o ∷ l) (operations_numbered place (serial + 1) os)

-- what a submit leaves of what was ahead. It was refused if something else was
pub takes_pending : (ahead after : List Entry) (operation : Operation) (old new : Mark) (outcome : Result (Unit {0}) SubmitFault) → IsAheadAfter ahead operation after
    → (IsOther ahead operation → (outcome ≡ Err Strange) × (new ≡ old)) → TakesPending operation old new outcome (operations_of ahead) (operations_of after)
takes_pending [] after operation old new outcome none other = inl (ap operations_of none)
takes_pending (e ∷ es) after operation old new outcome (inl (here, left)) other =
    inr (inl (ap (λ o. o ∷ operations_of es) here ∙ ap (λ l. operation ∷ operations_of l) (sym left)))
takes_pending (e ∷ es) after operation old new outcome (inr (unlike, left)) other =
    let (refused, same) = other unlike in
    inr (inr (ap operations_of left, refused, same))

-- what is ahead once these changes were announced
pub announces : (place serial : ℕ) (changes : List Operation) (ahead after : List Entry) → (after ≡ ahead) ⊎ (after ≡ ahead ++ numbered place serial changes)
    → (operations_of after ≡ operations_of ahead ++ changes) ⊎ (operations_of after ≡ operations_of ahead)
announces place serial changes ahead after (inl same) = inr (ap operations_of same)
announces place serial changes ahead after (inr sent) =
    inl (ap operations_of sent ∙ (map-append (λ (e : Entry). e.operation) ahead (numbered place serial changes) ∙ ap (λ l. operations_of ahead ++ l) (operations_numbered place serial changes)))

-- ---- a line that is handed on

pub handed_on_is : (known : List Entry) (old new : Line) → new.place ≡ old.place → new.serial ≡ old.serial + length old.ahead → new.sent ≡ old.sent ++ old.ahead → new.ahead ≡ [] → gate_of known new ≡ handed_on known old
handed_on_is known old new place serial sent none =
    let G : ℕ → ℕ → List Entry → List Entry → SharedValue = λ p n l a. record { known = known; mark = record { place = p; serial = n; sent = Some l }; pending = operations_of a } in
    ap (λ p. G p new.serial new.sent new.ahead) place
    ∙ (ap (λ n. G old.place n new.sent new.ahead) serial
    ∙ (ap (λ l. G old.place (old.serial + length old.ahead) l new.ahead) sent
    ∙ ap (λ a. G old.place (old.serial + length old.ahead) (old.sent ++ old.ahead) a) none))

-- nothing of a line changed
pub same_mark : (old new : Line) → new.place ≡ old.place → new.serial ≡ old.serial → new.sent ≡ old.sent → mark_of new ≡ mark_of old
same_mark old new place serial sent =
    let M : ℕ → ℕ → List Entry → Mark = λ p n l. record { place = p; serial = n; sent = Some l } in
    ap (λ p. M p new.serial new.sent) place ∙ (ap (λ n. M old.place n new.sent) serial ∙ ap (λ l. M old.place old.serial l) sent)
