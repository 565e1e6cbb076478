-- The inputs of a list of bytes are determined.
use Rattle.std.proofs.Common.{◌≡◌, ℕ, List, [], ◌∷◌, ◌++◌, refl, sym, subst, ap, ◌∙◌, append_assoc, inl, inr, ◌⊎◌, Result, Err}
use Rattle.std.proofs.lemmas.List.{append_cancel_left}
use Rattle.rs_packet.specs.Grammar.{Encodes}
use Rattle.rs_packet.specs.Prefixes.{IsFaulty}
use Rattle.rs_packet.specs.PacketReading.{answer}
use Rattle.rs_packet.specs.declared.packet.Decoded.{Decoded}
use Rattle.rs_packet.specs.declared.packet.Packet.{Packet}
use Rattle.rs_packet.specs.Faults.{PacketFault}
use Rattle.rs_packet.specs.Faults as faults
use Rattle.rs_packet.proofs.Prefixes.{one_encoding, no_fault, fault_stays}
use Rattle.rs_session.specs.declared.phase.Input.{Input}
use Rattle.rs_session.specs.declared.phase.Input.TheVariants.{Whole, Broken}
use Rattle.rs_server.specs.Conversation.{InputsOf, Agree}

-- a fault in the place of a packet is out of memory
only_memory : (text rest x same y : List ℕ) (p : Packet) (f : PacketFault) → Encodes text p → IsFaulty same f → (text ++ rest) ++ x ≡ same ++ y → f ≡ faults.NoMemory
only_memory text rest x same y p f s h e =
    no_fault text (rest ++ x) p f s (subst (λ (l : List ℕ). IsFaulty l f) (sym e ∙ append_assoc text rest x) (fault_stays f same y h))

-- a fault is what the bytes are answered with, or out of memory
is_answer : (f : PacketFault) (bytes : List ℕ) → IsFaulty bytes f → (f ≡ faults.NoMemory) ⊎ (answer bytes ≡ Err f)
is_answer faults.NoMemory bytes h = inl refl
is_answer faults.Malformed bytes h = inr h
is_answer faults.Protocol bytes h = inr h
is_answer faults.TooLarge bytes h = inr h
is_answer faults.Version bytes h = inr h

err_is : (f g : PacketFault) → ◌≡◌ {A = Result Decoded PacketFault} (Err f) (Err g) → f ≡ g
err_is f g e = cc

same_fault : (bytes same x y : List ℕ) (f g : PacketFault) → IsFaulty bytes f → IsFaulty same g → bytes ++ x ≡ same ++ y → (f ≡ faults.NoMemory) ⊎ ((g ≡ faults.NoMemory) ⊎ (f ≡ g))
same_fault bytes same x y f g h k e =
    elim (is_answer f (bytes ++ x) (fault_stays f bytes x h)) [
      | inl memory ↦ inl memory
      | inr first ↦
          elim (is_answer g (same ++ y) (fault_stays g same y k)) [
            | inl memory ↦ inr (inl memory)
            | inr second ↦ inr (inr (err_is f g (sym first ∙ ap answer e ∙ second)))
          ]
    ]

pub inputs_agree : (inputs others : List Input) (bytes buffered same kept x y : List ℕ) → InputsOf inputs bytes buffered → InputsOf others same kept → bytes ++ x ≡ same ++ y → Agree inputs others
inputs_agree [] others bytes buffered same kept x y h k e = tt
inputs_agree (input ∷ inputs) [] bytes buffered same kept x y h k e = tt
inputs_agree (Whole p ∷ inputs) (Whole q ∷ others) bytes buffered same kept x y (text, rest, a, s, h) (text', rest', b, t, k) e =
    let joined : text ++ (rest ++ x) ≡ text' ++ (rest' ++ y) = sym (append_assoc text rest x) ∙ sym (ap (λ (l : List ℕ). l ++ x) a) ∙ e ∙ ap (λ (l : List ℕ). l ++ y) b ∙ append_assoc text' rest' y in
    let one = one_encoding text text' (rest ++ x) (rest' ++ y) p q s t joined in
    (one.1, inputs_agree inputs others rest buffered rest' kept x y h k (append_cancel_left text (rest ++ x) (rest' ++ y) (joined ∙ sym (ap (λ (l : List ℕ). l ++ (rest' ++ y)) one.0))))
inputs_agree (Whole p ∷ inputs) (Broken f ∷ others) bytes buffered same kept x y (text, rest, a, s, h) (b, k) e =
    only_memory text rest x same y p f s b (sym (ap (λ (l : List ℕ). l ++ x) a) ∙ e)
inputs_agree (Broken f ∷ inputs) (Whole q ∷ others) bytes buffered same kept x y (a, h) (text, rest, b, t, k) e =
    only_memory text rest y bytes x q f t a (sym (ap (λ (l : List ℕ). l ++ y) b) ∙ sym e)
inputs_agree (Broken f ∷ inputs) (Broken g ∷ others) bytes buffered same kept x y (a, h) (b, k) e = same_fault bytes same x y f g a b e
