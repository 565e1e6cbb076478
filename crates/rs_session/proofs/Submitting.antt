-- Lemmas on the gate with a catalogue of its own.
use Rattle.std.proofs.Common.{◌≡◌, ◌≢◌, ◌⊎◌, inl, inr, ℕ, ◌+◌, ◌≤◌, Bool, true, false, if◌then◌else◌, List, [], ◌∷◌, ◌++◌, length, refl, sym, ap, subst, ◌∙◌, Option, Some, None, Ok, Err, arith, set, slice_index, append-nil}
use Rattle.std.proofs.lemmas.List.{append_assoc, append_cancel_left, get_or-set_same, length-set}
use Rattle.std.proofs.lemmas.List.Elements.{All-nil, All-cons, Contains-append_right}
use Rattle.std.specs.Prelude.{Contains}
use Rattle.std.specs.List.{All}
use Rattle.rs_message.specs.declared.fault.SubmitFault.TheVariants as submit_fault
use Rattle.rs_message.specs.Messages.{change_of, is_sweep, operation_of}
use Rattle.rs_message.specs.Values.{MessageValue, OriginValue}
use Rattle.rs_message.specs.declared.entry.Entry.{Entry}
use Rattle.rs_message.specs.declared.entry.Operation.{Operation}
use Rattle.rs_store.specs.declared.content.Content.{Content}
use Rattle.rs_message.specs.declared.entry.TheConstants.{MAX_LINES}
use Rattle.rs_store.specs.Adding.{Adds, NotAdds}
use Rattle.rs_store.specs.Contents.{IsAdded, NeedsSweep, NotAddedBy, serial_count, swept}
use Rattle.rs_store.specs.History.{cleaned, sweep_after}
use Rattle.rs_store.specs.declared.fault.Refusal.TheVariants as refusal
use Rattle.rs_session.specs.Gate.{Mark, Extends, Grows, IsHandedOver, Sends, Submits, last_origin}
use Rattle.rs_session.specs.Local.{local_mark, next_entry}

pub origin_is : (b : Bool) (o v : OriginValue) → Some o ≡ (if b then Some v else None) → o ≡ v
origin_is true o v e = cc
origin_is false o v e = absurd (cc)

-- nothing was sent
pub nothing_sent : (sent : Option (List Entry)) → Sends sent [] sent
nothing_sent None = tt
nothing_sent (Some entries) = sym (append-nil entries)

-- an entry of the gate's last serial has this operation
abbrev IsOf : Operation → Mark → Entry → Type 0
IsOf operation used e = e.origin ≡ last_origin used → e.operation ≡ operation

-- what came behind the list
some_new : (operation : Operation) (used : Mark) (seen more : List Entry) → All (IsOf operation used) more → IsHandedOver operation used seen (seen ++ more)
some_new operation used seen more all rest is = subst (All (IsOf operation used)) (append_cancel_left seen more rest is) all

-- nothing came
pub nothing_new : (operation : Operation) (used : Mark) (seen : List Entry) → IsHandedOver operation used seen seen
nothing_new operation used seen more e =
    subst (All (IsOf operation used)) (append_cancel_left seen [] more (append-nil seen ∙ e)) (All-nil (IsOf operation used))

-- an entry of another place is not of the mark
of_another : (operation : Operation) (used : Mark) (e : Entry) → e.origin.place ≢ used.place → IsOf operation used e
of_another operation used e other h = absurd (other (ap (λ (o : OriginValue). o.place) h))

-- one entry came, of this operation or of another place
pub one_new : (operation : Operation) (used : Mark) (seen : List Entry) (e : Entry) → IsOf operation used e → IsHandedOver operation used seen (seen ++ e ∷ [])
one_new operation used seen e of = some_new operation used seen (e ∷ []) (All-cons (IsOf operation used) e [] of (All-nil (IsOf operation used)))

-- two entries came
two_new : (operation : Operation) (used : Mark) (seen : List Entry) (d e : Entry) → IsOf operation used d → IsOf operation used e → IsHandedOver operation used seen (seen ++ d ∷ [] ++ e ∷ [])
two_new operation used seen d e first second =
    subst (IsHandedOver operation used seen) (sym (append_assoc seen (d ∷ []) (e ∷ [])))
    (some_new operation used seen (d ∷ e ∷ []) (All-cons (IsOf operation used) d (e ∷ []) first (All-cons (IsOf operation used) e [] second (All-nil (IsOf operation used)))))

-- a submit for which there is no space leaves the gate as it was
pub not_submitted : {A : Type 0} (stands : A → List Entry → Type 0) (before after : A) (operation : Operation) (old used : Mark) → after ≡ before → Grows (stands before) (stands after) (Submits operation old used (Err submit_fault.Full))
not_submitted stands before after operation old used same = λ seen s.
    (seen, subst (λ a. stands a seen) (sym same) s, ([], sym (append-nil seen)), record { handed_over = nothing_new operation used seen; submitted = tt; used = tt })

-- the serial of its place is that of the entry
serial_added : (c : Content) (e : Entry) (new : Content) → length c.serials ≡ serial_count → e.origin.place ≤ MAX_LINES → IsAdded c e new → slice_index new.serials e.origin.place ≡ e.origin.serial
serial_added c e new wide small (inl a) = ap (λ (w : Content). slice_index w.serials e.origin.place) a.1 ∙ get_or-set_same c.serials e.origin.place e.origin.serial 0 (omega (arith, wide, small))
serial_added c e new wide small (inr a) =
    let first : List ℕ = set c.serials 0 (slice_index c.serials 0 + 1) in
    ap (λ (w : Content). slice_index w.serials e.origin.place) a.1 ∙ get_or-set_same first e.origin.place e.origin.serial 0 (omega (arith, length-set c.serials 0 (slice_index c.serials 0 + 1), wide, small))

-- the serial of place 1 after an entry of place 1 was added
pub next_serial_added : (old new : Content) (operation : Operation) → length old.serials ≡ serial_count → IsAdded old (next_entry old operation) new → slice_index new.serials 1 ≡ slice_index old.serials 1 + 1
next_serial_added old new operation wide added = serial_added old (next_entry old operation) new wide (omega arith) added

-- the entry is named by the new mark
named : (old new : Content) (operation : Operation) → slice_index new.serials 1 ≡ slice_index old.serials 1 + 1 → next_entry old operation ≡ record { origin = last_origin (local_mark new); operation = operation }
named old new operation serial = ap (λ (k : ℕ). let x : Entry = record { origin = record { place = 1; serial = k }; operation = operation } in x) (sym serial)

-- the entry stands at the end of the list, with the serial that is now the last, perhaps behind a Sweep
pub submitted : (stands : List Entry → Type 0) (limit : ℕ) (old new : Content) (operation : Operation) (seen : List Entry) → slice_index new.serials 1 ≡ slice_index old.serials 1 + 1 → Adds limit seen (next_entry old operation) stands
    → (list : List Entry) × stands list × Extends list seen × Submits operation (local_mark old) (local_mark new) (Ok tt) seen list
submitted stands limit old new operation seen serial (inl a) =
    let e = next_entry old operation in (
      seen ++ e ∷ [],
      a.1,
      (e ∷ [], refl),
      record {
        handed_over = one_new operation (local_mark new) seen e (λ h. refl);
        submitted = record { entry = subst (Contains (seen ++ e ∷ [])) (named old new operation serial) (Contains-append_right seen (e ∷ []) e (0, omega arith, refl)); serial = omega (arith, serial); sent = tt };
        used = tt;
      },
    )
submitted stands limit old new operation seen serial (inr a) =
    let e = next_entry old operation in
    let sweep : Entry = sweep_after a.0.message.received seen in
    let clean : List Entry = cleaned a.0.message.received seen in (
      clean ++ e ∷ [],
      a.1,
      (sweep ∷ e ∷ [], append_assoc seen (sweep ∷ []) (e ∷ [])),
      record {
        handed_over = two_new operation (local_mark new) seen sweep e (of_another operation (local_mark new) sweep (λ h. omega (arith, h))) (λ h. refl);
        submitted = record { entry = subst (Contains (clean ++ e ∷ [])) (named old new operation serial) (Contains-append_right clean (e ∷ []) e (0, omega arith, refl)); serial = omega (arith, serial); sent = tt };
        used = tt;
      },
    )

-- if memory is refused, at most a Sweep came
pub not_added : (stands : List Entry → Type 0) (limit : ℕ) (old new : Content) (operation : Operation) (seen : List Entry) → NotAdds limit seen (next_entry old operation) refusal.NoMemory stands
    → (list : List Entry) × stands list × Extends list seen × Submits operation (local_mark old) (local_mark new) (Err submit_fault.NoMemory) seen list
not_added stands limit old new operation seen (inl n) = (seen, n.1, ([], sym (append-nil seen)), record { handed_over = nothing_new operation (local_mark new) seen; submitted = tt; used = tt })
not_added stands limit old new operation seen (inr (s, inl n)) = (seen, n, ([], sym (append-nil seen)), record { handed_over = nothing_new operation (local_mark new) seen; submitted = tt; used = tt })
not_added stands limit old new operation seen (inr (s, inr n)) =
    let sweep : Entry = sweep_after s.message.received seen in (
      cleaned s.message.received seen,
      n,
      (sweep ∷ [], refl),
      record { handed_over = one_new operation (local_mark new) seen sweep (of_another operation (local_mark new) sweep (λ h. omega (arith, h))); submitted = tt; used = tt },
    )

-- the entry that is handed over
abbrev pub entry_of : OriginValue → Operation → Entry
entry_of origin operation = record { origin = origin; operation = operation }

pub entry_is : (old : Content) (operation : Operation) (origin : OriginValue) (last : ℕ) → origin ≡ record { place = 1; serial = last + 1 } → last ≡ slice_index old.serials 1 → entry_of origin operation ≡ next_entry old operation
entry_is old operation origin last is same =
    ap (λ (v : OriginValue). entry_of v operation) is ∙ ap (λ (k : ℕ). let x : Entry = record { origin = record { place = 1; serial = k + 1 }; operation = operation } in x) same

-- what is left if memory is refused
pub left_of : (c : Content) (e : Entry) (new : Content) → NotAddedBy c e refusal.NoMemory new → (new ≡ c) ⊎ ((s : NeedsSweep c e) × (new ≡ swept s.message.received c))
left_of c e new (inl n) = inl n.1
left_of c e new (inr (s, inl n)) = inl n
left_of c e new (inr (s, inr n)) = inr (s, n)

-- what a PUBLISH asks for is no Sweep
no_sweep_of : (topic : List ℕ) (m : MessageValue) (bytes : List ℕ) → is_sweep (change_of topic m bytes) ≡ false
no_sweep_of topic m [] = refl
no_sweep_of topic m (b ∷ bs) = refl

pub no_sweep : (retain : Bool) (topic : List ℕ) (m : MessageValue) (o : Operation) → Some o ≡ operation_of retain topic m → is_sweep o ≡ false
no_sweep false topic m o is = absurd (cc (is))
no_sweep true topic m o is = let same : o ≡ change_of topic m m.payload = cc (is) in rw same (no_sweep_of topic m m.payload)
