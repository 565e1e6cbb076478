-- Lemmas on what was written.
use Rattle.std.proofs.Common.{◌≡◌, ℕ, ◌-◌, List, [], ◌∷◌, ◌++◌, length, take, drop, sym, subst, ap, ◌∙◌, append_assoc, append-nil, take-append-drop, Option, Some, None, Result, Ok, Err, OnErr, true, false, is_ok}
use Rattle.std.proofs.lemmas.List.{take_rest, flat_map_more}
use Rattle.std.proofs.KnownBytes.{Appends-trans}
use Rattle.std.specs.Io.KnownBytes.{Appends, Keeps}
use Rattle.rs_packet.specs.Replies.{reply_bytes}
use Rattle.rs_packet.specs.declared.reply.Reply.{Reply}
use Rattle.rs_server.specs.declared.writing.ServeFault.{ServeFault}
use Rattle.rs_server.specs.declared.writing.ServeFault.TheVariants.{Read, Write, NoMemory}
use Rattle.rs_server.specs.declared.counted.Counted.{Counted}
use Rattle.rs_server.specs.Counts.{inner_of, failures_of}
use Rattle.rs_server.specs.Writing.{Writes, AppendsFront, IsWriteCause, all_reply_bytes}

-- the first part of the rest goes behind what is done
pub moves_front : (all done rest : List ℕ) (n : ℕ) → all ≡ done ++ rest → all ≡ (done ++ take n rest) ++ take (length rest - n) (drop n rest)
moves_front all done rest n e =
    e ∙ ap (λ l. done ++ l) (sym (take-append-drop n rest)) ∙ sym (append_assoc done (take n rest) (drop n rest)) ∙ ap (λ l. (done ++ take n rest) ++ l) (sym (take_rest rest n))

front_after : (a b c : Option (List ℕ)) (xs ys : List ℕ) → Appends a b xs → AppendsFront b c ys → AppendsFront a c (xs ++ ys)
front_after a b c xs ys p (front, back, e, q) = (xs ++ front, back, ap (λ l. xs ++ l) e ∙ sym (append_assoc xs front back), Appends-trans a b c xs front p q)

-- what was written behind what was written
pub writes_after : {T : Type 0} (r : Result T ServeFault) (a b c : Option (List ℕ)) (xs ys : List ℕ) → Appends a b xs → Writes r b c ys → Writes r a c (xs ++ ys)
writes_after (Ok x) a b c xs ys p q = Appends-trans a b c xs ys p q
writes_after (Err Read) a b c xs ys p q = Appends-trans a b c xs ys p q
writes_after (Err Write) a b c xs ys p q = front_after a b c xs ys p q
writes_after (Err NoMemory) a b c xs ys p q = front_after a b c xs ys p q

-- less than the first part was written
pub writes_less : {T : Type 0} (r : Result T ServeFault) (a b : Option (List ℕ)) (before after : ℕ) (xs ys : List ℕ) → OnErr r (Writes r a b xs) → IsWriteCause r before after → OnErr r (Writes r a b (xs ++ ys))
writes_less (Ok x) a b before after xs ys p w = tt
writes_less (Err Read) a b before after xs ys p w = absurd w
writes_less (Err Write) a b before after xs ys (front, back, e, q) w = (front, back ++ ys, ap (λ l. l ++ ys) e ∙ append_assoc front back ys, q)
writes_less (Err NoMemory) a b before after xs ys (front, back, e, q) w = (front, back ++ ys, ap (λ l. l ++ ys) e ∙ append_assoc front back ys, q)

longer : (a b : Option (List ℕ)) (replies : List Reply) (reply : Reply) → AppendsFront a b (all_reply_bytes replies) → AppendsFront a b (all_reply_bytes (replies ++ reply ∷ []))
longer a b replies reply (front, back, e, q) =
    (front, back ++ reply_bytes reply, sym (flat_map_more reply_bytes [] replies reply) ∙ ap (λ l. l ++ reply_bytes reply) e ∙ append_assoc front back (reply_bytes reply), q)

cause_same : {T : Type 0} (r : Result T ServeFault) (a b c : ℕ) → b ≡ a → IsWriteCause r b c → IsWriteCause r a c
cause_same r a b c e w = subst (λ (n : ℕ). IsWriteCause r n c) e w

-- one more reply was written
pub writes_next : {T : Type 0} {W : Type 0} (contents : W → Option (List ℕ)) (written : Result T ServeFault) (r : Result T ServeFault) (first : Option (List ℕ)) (old new : Counted W) (replies : List Reply) (reply : Reply) (before : ℕ)
    → Writes written first (contents (inner_of old)) (all_reply_bytes replies) → IsWriteCause written before (failures_of old) → is_ok written ≡ true
    → Writes r (contents (inner_of old)) (contents (inner_of new)) (reply_bytes reply) → IsWriteCause r (failures_of old) (failures_of new)
    → Writes r first (contents (inner_of new)) (all_reply_bytes (replies ++ reply ∷ [])) × IsWriteCause r before (failures_of new)
writes_next contents (Ok x) r first old new replies reply before p w is h k =
    (subst (Writes r first (contents (inner_of new))) (flat_map_more reply_bytes [] replies reply) (writes_after r first _ _ _ _ p h), cause_same r before _ _ w k)
writes_next contents (Err f) r first old new replies reply before p w is h k = absurd (cc (is))

-- once something failed, no reply more is written
pub writes_none : {T : Type 0} (written : Result T ServeFault) (first last : Option (List ℕ)) (replies : List Reply) (reply : Reply) (before after : ℕ)
    → Writes written first last (all_reply_bytes replies) → IsWriteCause written before after → is_ok written ≡ false → Writes written first last (all_reply_bytes (replies ++ reply ∷ []))
writes_none (Ok x) first last replies reply before after p w is = absurd (cc (is))
writes_none (Err Read) first last replies reply before after p w is = absurd w
writes_none (Err Write) first last replies reply before after p w is = longer first last replies reply p
writes_none (Err NoMemory) first last replies reply before after p w is = longer first last replies reply p

-- all was written before the flush failed
pub all_in_front : (a b c : Option (List ℕ)) (xs : List ℕ) → Appends a b xs → Keeps b c → AppendsFront a c xs
all_in_front a b c xs p q = (xs, [], sym (append-nil xs), kept a b c p q)
  where
    kept : (a b c : Option (List ℕ)) → Appends a b xs → Keeps b c → Appends a c xs
    kept None b c p q = tt
    kept (Some x) None c p q = absurd p
    kept (Some x) (Some y) None p q = absurd q
    kept (Some x) (Some y) (Some z) p q = q ∙ p
