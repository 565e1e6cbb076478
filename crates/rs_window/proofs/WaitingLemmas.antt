-- Lemmas on messages that wait.
use Rattle.std.specs.Prelude.{is_some, map}
use Rattle.std.proofs.Common.{◌≡◌, ◌⊎◌, ℕ, ◌<◌, ◌≤◌, ◌^◌, ◌||◌, List, [], ◌∷◌, ◌++◌, length, Option, Bool, true, false, cond, nat_lt, refl, sym, ap, subst, ◌∙◌, inl, inr, arith}
use Rattle.std.proofs.lemmas.Bool.{or_right}
use Rattle.std.proofs.lemmas.Bool.Decides.{nat_tests}
use Rattle.rs_message.specs.declared.qos.Qos.{Qos}
use Rattle.rs_message.specs.declared.qos.Qos.TheVariants as qos
use Rattle.rs_packet.specs.Grammar.{IdFits}
use Rattle.rs_packet.specs.Replies.{publish_remaining, reply_bytes}
use Rattle.rs_message.specs.Sizes.{message_len}
use Rattle.rs_message.specs.declared.limits.TheConstants.{MAX_PACKET_SIZE}
use Rattle.rs_packet.proofs.Lengths.{message_len_alike, message_publish}
use Rattle.rs_packet.specs.Fields.{PropertiesValue, varint_end}
use Rattle.rs_packet.specs.declared.reply.Reply.{Reply}
use Rattle.rs_packet.specs.declared.reply.Reply.TheVariants as reply
use Rattle.rs_message.specs.declared.message.Remaining.{Remaining}
use Rattle.rs_message.specs.declared.message.Remaining.TheVariants.{Forever, Left, Expired}
use Rattle.rs_message.specs.Messages.{remaining_of, is_over}
use Rattle.rs_message.specs.declared.found.Found.{Found}
use Rattle.rs_window.specs.declared.waiting.Waiting.{Waiting}
use Rattle.rs_window.specs.Fields.{NeedNone}
use Rattle.rs_window.specs.Waiting.{is_dropped, granted_at, sendable, lesser_qos, some_id, len_with, packet_len, IsDropped}

pub some_id_fits : (quality : Qos) → IdFits quality (some_id quality)
some_id_fits qos.AtMostOnce = tt
some_id_fits qos.AtLeastOnce = (omega arith, omega arith)
some_id_fits qos.ExactlyOnce = (omega arith, omega arith)

-- what is known of the length of every such packet, said of the one that counts
pub len_known : (w : Waiting) (expiry : Option ℕ) (len payload : ℕ) (quality : Qos) (kept : PropertiesValue) → quality ≡ lesser_qos w → kept ≡ w.found.message.properties → payload ≡ length w.found.message.payload
    → ((id : Option ℕ) (bytes : List ℕ) → IdFits quality id → length bytes ≡ payload
    → len ≡ length (reply_bytes (reply.Publish (record { topic = w.found.topic; qos = quality; id = id; subscription = w.subscription; expiry = expiry; properties = kept; payload = bytes }))))
    → len ≡ len_with w expiry
unfolding len_with
len_known w expiry len payload quality kept q k e h =
    let packet : Qos → PropertiesValue → Reply = λ x ps. reply.Publish (record { topic = w.found.topic; qos = x; id = some_id x; subscription = w.subscription; expiry = expiry; properties = ps; payload = w.found.message.payload }) in
    h (some_id quality) w.found.message.payload (some_id_fits quality) (sym e) ∙ ap (λ (x : Qos). length (reply_bytes (packet x kept))) q ∙ ap (λ (ps : PropertiesValue). length (reply_bytes (packet (lesser_qos w) ps))) k

-- a message that fits a packet has a PUBLISH, with any interval
pub packet_fits : (topic : List ℕ) (quality : Qos) (expiry own subscription : Option ℕ) (kept stored : PropertiesValue) (payload size : ℕ) → length topic < 2 ^ 16 → is_some expiry ≡ is_some own → kept ≡ stored → payload ≡ size
    → message_len own stored size ≤ MAX_PACKET_SIZE → publish_remaining topic quality expiry subscription kept payload < varint_end
packet_fits topic quality expiry own subscription kept stored payload size short alike k e fits =
    let same : message_len expiry stored size ≡ message_len own stored size = message_len_alike expiry own stored size alike in
    let small : publish_remaining topic quality expiry subscription stored size < varint_end = message_publish topic quality expiry subscription stored size short (omega (arith, same, fits)) in
    subst (λ (ps : PropertiesValue). publish_remaining topic quality expiry subscription ps payload < varint_end) (sym k)
    (subst (λ (n : ℕ). publish_remaining topic quality expiry subscription stored n < varint_end) (sym e) small)

-- ---- the test, and what it tests

over_expired : (r : Remaining) → is_over r ≡ true → r ≡ Expired
over_expired Forever e = absurd (cc)
over_expired (Left seconds) e = absurd (cc)
over_expired Expired e = refl

dropped_by : (r : Remaining) (packet_maximum size : ℕ) (b : Bool) → is_over r ≡ b → (b || nat_lt packet_maximum size) ≡ true → (r ≡ Expired) ⊎ (packet_maximum < size)
dropped_by r packet_maximum size true e h = inl (over_expired r e)
dropped_by r packet_maximum size false e h = inr (grind (arith, nat_tests))

-- what the test drops may be dropped
pub drops : (packet_maximum now : ℕ) (w : Waiting) → is_dropped packet_maximum now w ≡ true → IsDropped packet_maximum now w
drops packet_maximum now w h = dropped_by (remaining_of w.found.message now) packet_maximum (packet_len now w) _ refl h

-- what the test does not drop may not be dropped
pub keeps : (packet_maximum now : ℕ) (w : Waiting) → is_dropped packet_maximum now w ≡ false → IsDropped packet_maximum now w → ⊥
keeps packet_maximum now w h (inl e) = let t : true ≡ false = sym (ap (λ (r : Remaining). is_over r || nat_lt packet_maximum (packet_len now w)) e) ∙ h in cc
keeps packet_maximum now w h (inr less) =
    let t : nat_lt packet_maximum (packet_len now w) ≡ true = grind (arith, nat_tests) in
    let all : is_dropped packet_maximum now w ≡ true = or_right (is_over (remaining_of w.found.message now)) _ t in
    let wrong : true ≡ false = sym all ∙ h in cc

-- ---- what still waits

first_step : (packet_maximum now : ℕ) (v w : Waiting) (vs rest : List Waiting) (b : Bool) → is_dropped packet_maximum now v ≡ b
    → (sendable packet_maximum now vs ≡ w ∷ rest → is_dropped packet_maximum now w ≡ false)
    → cond b (sendable packet_maximum now vs) (v ∷ vs) ≡ w ∷ rest → is_dropped packet_maximum now w ≡ false
first_step packet_maximum now v w vs rest true d later e = later e
first_step packet_maximum now v w vs rest false d later e = let same : v ≡ w = cc in subst (λ (x : Waiting). is_dropped packet_maximum now x ≡ false) same d

-- what stands first then is to be sent
pub first_is_sent : (packet_maximum now : ℕ) (w : Waiting) (ws rest : List Waiting) → sendable packet_maximum now ws ≡ w ∷ rest → is_dropped packet_maximum now w ≡ false
first_is_sent packet_maximum now w [] rest e = absurd (cc)
first_is_sent packet_maximum now w (v ∷ vs) rest e = first_step packet_maximum now v w vs rest (is_dropped packet_maximum now v) refl (first_is_sent packet_maximum now w vs rest) e

-- no more wait than before
pub sendable_fewer : (packet_maximum now : ℕ) (ws : List Waiting) → length (sendable packet_maximum now ws) ≤ length ws
sendable_fewer packet_maximum now [] = omega arith
sendable_fewer packet_maximum now (w ∷ ws) = by_case (is_dropped packet_maximum now w) (sendable_fewer packet_maximum now ws)
  where
    by_case : (b : Bool) → length (sendable packet_maximum now ws) ≤ length ws → length (cond b (sendable packet_maximum now ws) (w ∷ ws)) ≤ length (w ∷ ws)
    by_case true h = omega arith
    by_case false h = omega arith

-- ---- what needs no identifier

granted_none : (granted : Qos) (subscription : Option ℕ) (found : List Found) → granted ≡ qos.AtMostOnce → NeedNone (map (granted_at granted subscription) found)
granted_none granted subscription [] is = tt
granted_none granted subscription (f ∷ fs) is = (is, granted_none granted subscription fs is)

appended_none : (granted : Qos) (subscription : Option ℕ) (found : List Found) → (granted ≡ qos.AtMostOnce) ⊎ (found ≡ []) → NeedNone (map (granted_at granted subscription) found)
appended_none granted subscription [] none = tt
appended_none granted subscription (f ∷ fs) (inl is) = granted_none granted subscription (f ∷ fs) is
appended_none granted subscription (f ∷ fs) (inr is) = absurd (cc (is))

-- what was granted QoS 0, or nothing, behind what needs none
pub still_none : (granted : Qos) (subscription : Option ℕ) (waiting : List Waiting) (found : List Found) → NeedNone waiting → (granted ≡ qos.AtMostOnce) ⊎ (found ≡ []) → NeedNone (waiting ++ map (granted_at granted subscription) found)
still_none granted subscription [] found before none = appended_none granted subscription found none
still_none granted subscription (w ∷ ws) found before none = (before.0, still_none granted subscription ws found before.1 none)

-- what is left to be sent needs none either
pub sendable_none : (packet_maximum now : ℕ) (ws : List Waiting) → NeedNone ws → NeedNone (sendable packet_maximum now ws)
sendable_none packet_maximum now [] none = tt
sendable_none packet_maximum now (w ∷ ws) none = by_case (is_dropped packet_maximum now w) (sendable_none packet_maximum now ws none.1)
  where
    by_case : (b : Bool) → NeedNone (sendable packet_maximum now ws) → NeedNone (cond b (sendable packet_maximum now ws) (w ∷ ws))
    by_case true h = h
    by_case false h = none

-- what stands behind the first
pub rest_none : (w : Waiting) (ws rest : List Waiting) → ws ≡ w ∷ rest → NeedNone ws → NeedNone rest
rest_none w ws rest is none = let all : NeedNone (w ∷ rest) = subst NeedNone is none in all.1
