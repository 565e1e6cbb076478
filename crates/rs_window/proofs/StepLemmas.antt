-- Lemmas on the steps of a window.
use Rattle.std.proofs.Common.{length, arith, ◌≡◌, ◌≢◌, ℕ, ◌<◌, ◌≤◌, List, [], ◌∷◌, ◌++◌, get_or, Option, Some, None, Bool, true, false, nat_lt, refl, sym, ap, subst, ◌∙◌, inl, inr, length-append}
use Rattle.std.proofs.lemmas.Bool.Decides.{nat_tests}
use Rattle.std.specs.FinMap as finite
use Rattle.rs_message.specs.declared.qos.Qos.{Qos}
use Rattle.rs_message.specs.declared.qos.Qos.TheVariants as qos
use Rattle.rs_packet.specs.Grammar.{IdFits, id_bytes, frame}
use Rattle.rs_packet.specs.Fields.{counted, properties, varint}
use Rattle.rs_packet.specs.Fields.{replayed}
use Rattle.rs_packet.specs.Replies.{first_byte, reply_bytes}
use Rattle.rs_message.specs.declared.message.Remaining.TheVariants.{Expired}
use Rattle.rs_message.specs.Messages.{remaining_of}
use Rattle.rs_window.specs.declared.waiting.Waiting.{Waiting}
use Rattle.rs_window.specs.Values.{OutgoingValue}
use Rattle.rs_window.specs.Packets.{reply_of}
use Rattle.rs_window.specs.Identifiers.{Kinds, IsNumbered, kinds_given}
use Rattle.rs_window.specs.State.{State}
use Rattle.rs_window.specs.Waiting.{lesser_qos, some_id, packet_at, packet_with, packet_len, len_with, interval_sent, is_dropped, sendable, Carries}
use Rattle.rs_window.specs.Calls.{NeedsQuota, IsGiven}
use Rattle.rs_window.proofs.WaitingLemmas.{keeps, some_id_fits, first_is_sent, sendable_fewer}

-- ---- each identifier has the same length

id_len : (quality : Qos) (a b : Option ℕ) → IdFits quality a → IdFits quality b → length (id_bytes a) ≡ length (id_bytes b)
id_len qos.AtMostOnce None None f g = refl
id_len qos.AtMostOnce None (Some m) f g = absurd g
id_len qos.AtMostOnce (Some n) b f g = absurd f
id_len qos.AtLeastOnce None b f g = absurd f
id_len qos.AtLeastOnce (Some n) None f g = absurd g
id_len qos.AtLeastOnce (Some n) (Some m) f g = refl
id_len qos.ExactlyOnce None b f g = absurd f
id_len qos.ExactlyOnce (Some n) None f g = absurd g
id_len qos.ExactlyOnce (Some n) (Some m) f g = refl

body_len : (before rest a b : List ℕ) → length a ≡ length b → length (before ++ (a ++ rest)) ≡ length (before ++ (b ++ rest))
body_len before rest a b e = omega (arith, e, length-append before (a ++ rest), length-append before (b ++ rest), length-append a rest, length-append b rest)

frame_len : (first : ℕ) (a b : List ℕ) → length a ≡ length b → length (frame first a) ≡ length (frame first b)
frame_len first a b e =
    let same : length (varint (length a)) ≡ length (varint (length b)) = ap (λ (n : ℕ). length (varint n)) e in
    omega (arith, e, same, length-append (varint (length a)) a, length-append (varint (length b)) b)

packet_lens : (w : Waiting) (expiry a b : Option ℕ) → IdFits (lesser_qos w) a → IdFits (lesser_qos w) b
    → length (reply_bytes (reply_of (packet_with w expiry a))) ≡ length (reply_bytes (reply_of (packet_with w expiry b)))
packet_lens w expiry a b f g =
    let head = counted w.found.topic in
    let rest = properties (replayed expiry w.subscription w.found.message.properties) ++ w.found.message.payload in
    frame_len (first_byte (reply_of (packet_with w expiry a))) (head ++ (id_bytes a ++ rest)) (head ++ (id_bytes b ++ rest)) (body_len head rest (id_bytes a) (id_bytes b) (id_len (lesser_qos w) a b f g))

-- ---- a given packet

not_above : (m n : ℕ) → (m < n → ⊥) → n ≤ m
not_above m n h = by_case (nat_lt m n) refl
  where
    by_case : (b : Bool) → nat_lt m n ≡ b → n ≤ m
    by_case true e = absurd (h (grind (arith, nat_tests)))
    by_case false e = grind (arith, nat_tests)

len_is : (now : ℕ) (w : Waiting) → packet_len now w ≡ length (reply_bytes (reply_of (packet_at now w (some_id (lesser_qos w)))))
unfolding len_with
len_is now w = refl

pub carries_of : (packet_maximum now : ℕ) (w : Waiting) (id : Option ℕ) → IdFits (lesser_qos w) id → is_dropped packet_maximum now w ≡ false → Carries packet_maximum now w (packet_at now w id)
carries_of packet_maximum now w id f d =
    let short : packet_len now w ≤ packet_maximum = not_above packet_maximum (packet_len now w) (λ h. keeps packet_maximum now w d (inr h)) in
    let same : length (reply_bytes (reply_of (packet_at now w id))) ≡ packet_len now w =
    packet_lens w (interval_sent (remaining_of w.found.message now)) id (some_id (lesser_qos w)) f (some_id_fits (lesser_qos w)) ∙ sym (len_is now w) in
    record {
      packet = refl;
      current = λ e. keeps packet_maximum now w d (inl e);
      fits = subst (λ (n : ℕ). n ≤ packet_maximum) (sym same) short;
    }

-- ---- the steps

pub needs_quota : (kinds : Kinds) (quota : ℕ) (w : Waiting) (ws : List Waiting) → w ≡ get_or ws 0 w → lesser_qos w ≢ qos.AtMostOnce → finite.len kinds ≡ quota → NeedsQuota kinds quota ws
needs_quota kinds quota w [] e q n = tt
needs_quota kinds quota w (x ∷ xs) e q n = (subst (λ (v : Waiting). lesser_qos v ≢ qos.AtMostOnce) e q, n)

-- what stands first has not expired
pub first_current : (packet_maximum now : ℕ) (w : Waiting) (ws rest : List Waiting) → sendable packet_maximum now ws ≡ w ∷ rest → remaining_of w.found.message now ≢ Expired
first_current packet_maximum now w ws rest e h = keeps packet_maximum now w (first_is_sent packet_maximum now w ws rest e) (inl h)

pub is_given : (now : ℕ) (old : State) (kinds : Kinds) (rest : List Waiting) (first : Waiting) (p : OutgoingValue) (id : Option ℕ)
    → sendable old.packet_maximum now old.waiting ≡ first ∷ rest → p ≡ packet_at now first id
    → IsNumbered old.kinds old.quota (lesser_qos first) id → kinds ≡ kinds_given (lesser_qos first) id old.kinds
    → IsGiven now old p (record { kinds = kinds; waiting = rest; quota = old.quota; packet_maximum = old.packet_maximum })
is_given now old kinds rest first p id leaves same numbered becomes =
    let given : IsGiven now old (packet_at now first id) (record { kinds = kinds; waiting = rest; quota = old.quota; packet_maximum = old.packet_maximum }) = record {
      first = first;
      leaves = leaves;
      carries = carries_of old.packet_maximum now first id numbered.fits (first_is_sent old.packet_maximum now first old.waiting rest leaves);
      numbered = numbered;
      becomes = ap (λ (k : Kinds). record { kinds = k; waiting = rest; quota = old.quota; packet_maximum = old.packet_maximum }) becomes;
    } in
    subst (λ (r : OutgoingValue). IsGiven now old r (record { kinds = kinds; waiting = rest; quota = old.quota; packet_maximum = old.packet_maximum })) (sym same) given

-- each that is given leaves fewer
pub given_fewer : (packet_maximum now : ℕ) (old new : List Waiting) (first : Waiting) → sendable packet_maximum now old ≡ first ∷ new → length new < length old
given_fewer packet_maximum now old new first e = omega (arith, sendable_fewer packet_maximum now old, ap (λ (ws : List Waiting). length ws) e)
