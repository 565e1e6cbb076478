-- What a submit to the store of a single connection leads to.
use Rattle.std.proofs.Common.{◌≡◌, inl, inr, false, ℕ, List, [], ◌∷◌, refl, sym, ap, subst, ◌∙◌, Ok, Err, arith, append-nil, All}
use Rattle.std.proofs.lemmas.List.Elements.{All-append, All-cons, All-nil}
use Rattle.rs_message.specs.Messages.{is_sweep}
use Rattle.rs_message.specs.declared.entry.Entry.{Entry}
use Rattle.rs_message.specs.declared.entry.Operation.{Operation}
use Rattle.rs_message.specs.declared.fault.SubmitFault.{SubmitFault}
use Rattle.rs_message.specs.declared.fault.SubmitFault.TheVariants as submit
use Rattle.rs_store.specs.Adding.{Adds, NotAdds}
use Rattle.rs_store.specs.Contents.{IsAdded}
use Rattle.rs_store.specs.History.{IsLegal, NeedsSweepAfter, Stands, cleaned, extended}
use Rattle.rs_store.specs.Needed.{AreNeeded}
use Rattle.rs_store.specs.declared.content.Content.{Content}
use Rattle.rs_store.specs.declared.fault.Refusal.TheVariants as refusal
use Rattle.rs_store.proofs.Adding.{adds, not_adds}
use Rattle.rs_store.proofs.Needed.{needed_cleaned, needed_more, needed_none}
use Rattle.rs_session.specs.Gate.{Extends, Submits}
use Rattle.rs_session.specs.Local.{IsLeft, local_mark, next_entry}
use Rattle.rs_session.proofs.Submitting.{next_serial_added, not_added, nothing_new, submitted}
use Rattle.rs_program_pipe.specs.declared.own_store.TheConstants.{MAX_OWN_TOPICS}
use Rattle.rs_program_pipe.specs.OwnStores.{IsOfOwnPlace, IsOwn, IsOwnEntry}

-- of a list with one own entry more
more : (seen : List Entry) (e : Entry) → All IsOwnEntry seen → IsOwnEntry e → All IsOwnEntry (extended seen e)
more seen e all one = All-append IsOwnEntry seen (e ∷ []) all (All-cons IsOwnEntry e [] one (All-nil IsOwnEntry))

-- of a list with a Sweep more
clean : (seen : List Entry) (moment : ℕ) → All IsOwnEntry seen → All IsOwnEntry (cleaned moment seen)
clean seen moment all = more seen _ all (inr (refl, refl))

own : (c : Content) (list : List Entry) → c.limit ≡ MAX_OWN_TOPICS → Stands c list → All IsOwnEntry list → AreNeeded MAX_OWN_TOPICS IsOfOwnPlace list → IsOwn c list
own c list limit stands places needed = record { stands = stands; legal = subst (λ (n : ℕ). IsLegal n list) limit stands.legal; places = places; needed = needed }

pub own_empty : (c : Content) → c.limit ≡ MAX_OWN_TOPICS → Stands c [] → IsOwn c []
own_empty c limit stands = own c [] limit stands (All-nil IsOwnEntry) (needed_none MAX_OWN_TOPICS IsOfOwnPlace)

own_cleaned : (old new : Content) (seen : List Entry) (e : Entry) → new.limit ≡ MAX_OWN_TOPICS → IsOwn old seen → IsOfOwnPlace e → (s : NeedsSweepAfter MAX_OWN_TOPICS seen e) → Stands new (cleaned s.message.received seen) → IsOwn new (cleaned s.message.received seen)
own_cleaned old new seen e topics o one s stands =
    own new (cleaned s.message.received seen) topics stands (clean seen s.message.received o.places) (needed_cleaned MAX_OWN_TOPICS IsOfOwnPlace seen e one s o.needed)

own_adds : (old new : Content) (seen : List Entry) (e : Entry) → new.limit ≡ MAX_OWN_TOPICS → IsOwn old seen → IsOfOwnPlace e → is_sweep e.operation ≡ false → Adds MAX_OWN_TOPICS seen e (Stands new) → Adds MAX_OWN_TOPICS seen e (IsOwn new)
own_adds old new seen e topics o one plain (inl a) = inl (a.0, own new (extended seen e) topics a.1 (more seen e o.places (inl one)) (needed_more MAX_OWN_TOPICS IsOfOwnPlace seen e plain o.needed))
own_adds old new seen e topics o one plain (inr a) =
    let m = a.0.message.received in
    let needed = needed_more MAX_OWN_TOPICS IsOfOwnPlace (cleaned m seen) e plain (needed_cleaned MAX_OWN_TOPICS IsOfOwnPlace seen e one a.0 o.needed) in
    inr (a.0, own new (extended (cleaned m seen) e) topics a.1 (more (cleaned m seen) e (clean seen m o.places) (inl one)) needed)

own_not_adds : (old new : Content) (seen : List Entry) (e : Entry) → new.limit ≡ MAX_OWN_TOPICS → IsOwn old seen → IsOfOwnPlace e → NotAdds MAX_OWN_TOPICS seen e refusal.NoMemory (Stands new) → NotAdds MAX_OWN_TOPICS seen e refusal.NoMemory (IsOwn new)
own_not_adds old new seen e topics o one (inl n) = inl (n.0, own new seen topics n.1 o.places o.needed)
own_not_adds old new seen e topics o one (inr (s, inl n)) = inr (s, inl (own new seen topics n o.places o.needed))
own_not_adds old new seen e topics o one (inr (s, inr n)) = inr (s, inr (own_cleaned old new seen e topics o one s n))

limit_added : (c : Content) (e : Entry) (new : Content) → IsAdded c e new → new.limit ≡ c.limit
limit_added c e new (inl a) = ap (λ (w : Content). w.limit) a.1
limit_added c e new (inr a) = ap (λ (w : Content). w.limit) a.1

-- the entry comes behind the list, perhaps after a Sweep
pub own_submitted : (old new : Content) (operation : Operation) (seen : List Entry) → old.limit ≡ MAX_OWN_TOPICS → is_sweep operation ≡ false → IsAdded old (next_entry old operation) new → IsOwn old seen
    → (list : List Entry) × IsOwn new list × Extends list seen × Submits operation (local_mark old) (local_mark new) (Ok tt) seen list
own_submitted old new operation seen limit plain added o =
    let e = next_entry old operation in
    let P : ℕ → Type 0 = λ n. Adds n seen e (Stands new) in
    submitted (IsOwn new) MAX_OWN_TOPICS old new operation seen (next_serial_added old new operation o.stands.wide added)
    (own_adds old new seen e (limit_added old e new added ∙ limit) o refl plain (subst P limit (adds old seen e new o.stands (omega arith) added)))

-- at most a Sweep comes
pub own_left : (old new : Content) (operation : Operation) (fault : SubmitFault) (seen : List Entry) → old.limit ≡ MAX_OWN_TOPICS → IsLeft old operation fault new → IsOwn old seen
    → (list : List Entry) × IsOwn new list × Extends list seen × Submits operation (local_mark old) (local_mark new) (Err fault) seen list
own_left old new operation submit.Full seen limit is o = (seen, subst (λ (c : Content). IsOwn c seen) (sym is) o, ([], sym (append-nil seen)), record { handed_over = nothing_new operation (local_mark new) seen; submitted = tt; used = tt })
own_left old new operation submit.NoMemory seen limit (inl is) o = (seen, subst (λ (c : Content). IsOwn c seen) (sym is) o, ([], sym (append-nil seen)), record { handed_over = nothing_new operation (local_mark new) seen; submitted = tt; used = tt })
own_left old new operation submit.NoMemory seen limit (inr w) o =
    let e = next_entry old operation in
    let P : ℕ → Type 0 = λ n. NotAdds n seen e refusal.NoMemory (Stands new) in
    not_added (IsOwn new) MAX_OWN_TOPICS old new operation seen
    (own_not_adds old new seen e (ap (λ (c : Content). c.limit) w.1 ∙ limit) o refl (subst P limit (not_adds old seen e refusal.NoMemory new o.stands (omega arith) (omega arith) (inr (w.0, inr w.1)))))
own_left old new operation submit.Open seen limit none o = absurd none
own_left old new operation submit.Strange seen limit none o = absurd none
own_left old new operation submit.Closed seen limit none o = absurd none
