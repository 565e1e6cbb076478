-- The front of a stream: a fault stays whatever follows, and a packet has one reading.
use Rattle.std.proofs.Common.{◌≡◌, ℕ, zero, suc, ◌+◌, ◌-◌, ◌*◌, ◌<◌, ◌≤◌, Bool, true, false, cond, eqb, ltb, List, [], ◌∷◌, ◌++◌, length, take, slice_range, Option, Some, None, Result, Ok, Err, refl, sym, ap, subst, ◌∙◌, append_assoc, arith, inl, inr}
use Rattle.std.proofs.lemmas.Bool.{cases_lt, ltb-true, ltb-false, lt-ltb, le-ltb}
use Rattle.std.proofs.lemmas.List.{append-nil, nil_from_length, length-append, take-append-le, take_all, length-take-le}
use Rattle.rs_packet_field.specs.declared.fault.PacketFault.{PacketFault}
use Rattle.rs_packet_field.specs.declared.fault.PacketFault.TheVariants.{Malformed, Protocol, TooLarge, Version, NoMemory}
use Rattle.rs_packet_field.specs.declared.varint.VarintFault.{VarintFault}
use Rattle.rs_packet_field.specs.declared.varint.VarintFault.TheVariants.{Short, Bad}
use Rattle.rs_packet.specs.declared.packet.Decoded.{Decoded}
use Rattle.rs_packet.specs.declared.packet.Decoded.TheVariants.{Whole, More}
use Rattle.rs_packet.specs.declared.packet.PacketKind.{PacketKind}
use Rattle.rs_packet.specs.declared.packet.Packet.{Packet}
use Rattle.rs_packet_field.specs.Reading.{◌>>=◌, digits_at, IsEnd}
use Rattle.rs_message.specs.declared.limits.TheConstants.{MAX_PACKET_SIZE}
use Rattle.rs_packet.specs.Grammar.{Encodes}
use Rattle.rs_packet.specs.declared.header.Header.{Header}
use Rattle.rs_packet.specs.PacketReading.{Gives, Fails, kind_of, packet_at, body_at, header_in, header_at, packet_in, sized, answer}
use Rattle.rs_packet.specs.Prefixes.{IsMore, IsFaulty}
use Rattle.bytes.proofs.Ranges.{take-append_past}
use Rattle.rs_packet_property.specs.Properties.{varint, varint_end}
use Rattle.rs_packet_field.proofs.Numbers.{IsEnd-next, digits_rest, cut}
use Rattle.rs_packet_field.proofs.Fields.{IsBytes, IsBytes-rest, digits_takes, digits_again}
use Rattle.rs_packet.proofs.AnswerLaws.{answer_again, encoded_once}

-- ---- a packet has one reading

whole_is : (p q : Packet) (m n : ℕ) → ◌≡◌ {A = Result Decoded PacketFault} (Ok (Whole p m)) (Ok (Whole q n)) → p ≡ q
whole_is p q m n e = cc

pub one_encoding : (a b x y : List ℕ) (p q : Packet) → Encodes a p → Encodes b q → a ++ x ≡ b ++ y → (a ≡ b) × (p ≡ q)
one_encoding a b x y p q h k e =
    let same = sym (answer_again a x p h) ∙ ap answer e ∙ answer_again b y q k in
    ((encoded_once a b x y p q h k e).0, whole_is p q (length a) (length b) same)

whole_no_fault : (bytes : List ℕ) (p : Packet) (n : ℕ) (f : PacketFault) → answer bytes ≡ Ok (Whole p n) → IsFaulty bytes f → f ≡ NoMemory
whole_no_fault bytes p n NoMemory e h = refl
whole_no_fault bytes p n Malformed e h = absurd (let x : ◌≡◌ {A = Result Decoded PacketFault} (Ok (Whole p n)) (Err Malformed) = sym e ∙ h in cc)
whole_no_fault bytes p n Protocol e h = absurd (let x : ◌≡◌ {A = Result Decoded PacketFault} (Ok (Whole p n)) (Err Protocol) = sym e ∙ h in cc)
whole_no_fault bytes p n TooLarge e h = absurd (let x : ◌≡◌ {A = Result Decoded PacketFault} (Ok (Whole p n)) (Err TooLarge) = sym e ∙ h in cc)
whole_no_fault bytes p n Version e h = absurd (let x : ◌≡◌ {A = Result Decoded PacketFault} (Ok (Whole p n)) (Err Version) = sym e ∙ h in cc)

pub no_fault : (a x : List ℕ) (p : Packet) (f : PacketFault) → Encodes a p → IsFaulty (a ++ x) f → f ≡ NoMemory
no_fault a x p f h e = whole_no_fault (a ++ x) p (length a) f (answer_again a x p h) e

pub not_more : (a x : List ℕ) (p : Packet) → Encodes a p → IsMore (a ++ x) → ⊥
not_more a x p h e = let is : ◌≡◌ {A = Result Decoded PacketFault} (Ok (Whole p (length a))) (Ok More) = sym (answer_again a x p h) ∙ e in absurd cc

-- ---- what follows

-- a number that was read, with more after it
abbrev pub extended : List ℕ → Result (ℕ × List ℕ) VarintFault → Result (ℕ × List ℕ) VarintFault
extended more (Ok x) = Ok (x.0, x.1 ++ more)
extended more (Err c) = Err c

pub digits_more : (k : ℕ) (bytes more : List ℕ) → (digits_at k bytes ≡ Err Short → ⊥) → digits_at k (bytes ++ more) ≡ extended more (digits_at k bytes)
unfolding digits_at
digits_more zero bytes more h = refl
digits_more (suc k) [] more h = absurd (h refl)
digits_more (suc k) (b ∷ bytes) more h = by (λ n. digits_more k bytes more n) (ltb b 128) refl
  where
    combined : Result (ℕ × List ℕ) VarintFault → Result (ℕ × List ℕ) VarintFault
    combined r = r >>= λ high. cond (eqb high.0 0) (Err Bad) (Ok (b - 128 + 128 * high.0, high.1))

    further : (r : Result (ℕ × List ℕ) VarintFault) → combined (extended more r) ≡ extended more (combined r)
    further (Err c) = refl
    further (Ok x) = tested (eqb x.0 0)
      where
        tested : (t : Bool) → cond {A = Result (ℕ × List ℕ) VarintFault} t (Err Bad) (Ok (b - 128 + 128 * x.0, x.1 ++ more)) ≡ extended more (cond t (Err Bad) (Ok (b - 128 + 128 * x.0, x.1)))
        tested true = refl
        tested false = refl

    by : ((digits_at k bytes ≡ Err Short → ⊥) → digits_at k (bytes ++ more) ≡ extended more (digits_at k bytes)) → (t : Bool) → ltb b 128 ≡ t
        → cond (ltb b 128) (Ok (b, bytes ++ more)) (combined (digits_at k (bytes ++ more))) ≡ extended more (cond (ltb b 128) (Ok (b, bytes)) (combined (digits_at k bytes)))
    by again true e = rw e refl
    by again false e =
        let one : digits_at k bytes ≡ Err Short → ⊥ = λ s. h (rw (e, s) refl) in
        rw e (ap combined (again one) ∙ further (digits_at k bytes))

-- a number that was read, or a form that is none, stays
digits_stay : (bytes more : List ℕ) (r : Result (ℕ × List ℕ) VarintFault) → digits_at 4 bytes ≡ r → (r ≡ Err Short → ⊥) → digits_at 4 (bytes ++ more) ≡ extended more r
digits_stay bytes more r e h = digits_more 4 bytes more (λ s. h (sym e ∙ s)) ∙ ap (extended more) e

-- ---- a fault stays

tested : {A : Type 0} (t : Bool) (x y z : Result A PacketFault) → ((t ≡ true) → x ≡ z) → ((t ≡ false) → y ≡ z) → cond t x y ≡ z
tested true x y z f g = f refl
tested false x y z f g = g refl

body_stays : (k : PacketKind) (before n : ℕ) (rest more : List ℕ) (f : PacketFault) → body_at k before n rest ≡ Err f → body_at k before n (rest ++ more) ≡ Err f
body_stays k before n rest more f e = size (ltb MAX_PACKET_SIZE (before + n)) refl e
  where
    read : List ℕ → Result Decoded PacketFault
    read body = packet_at k body >>= λ p. Ok (Whole p (before + n))

    long : (t : Bool) → ltb (length rest) n ≡ t → cond t (Ok More) (read (take n rest)) ≡ Err f → cond (ltb (length (rest ++ more)) n) (Ok More) (read (take n (rest ++ more))) ≡ Err f
    long true is e = absurd cc
    long false is e =
        let le : n ≤ length rest = ltb-false _ _ is in
        let enough : ltb (length (rest ++ more)) n ≡ false = le-ltb _ _ (omega (arith, le, length-append rest more)) in
        rw (enough, take-append-le n rest more le) e

    size : (t : Bool) → ltb MAX_PACKET_SIZE (before + n) ≡ t → cond t (Err TooLarge) (cond (ltb (length rest) n) (Ok More) (read (take n rest))) ≡ Err f
        → cond (ltb MAX_PACKET_SIZE (before + n)) (Err TooLarge) (cond (ltb (length (rest ++ more)) n) (Ok More) (read (take n (rest ++ more)))) ≡ Err f
    size true is e = rw is e
    size false is e = rw is (long (ltb (length rest) n) refl e)

sized_stays : (k : PacketKind) (bytes more : List ℕ) (f : PacketFault) (r : Result (ℕ × List ℕ) VarintFault) → digits_at 4 bytes ≡ r → sized k bytes r ≡ Err f → sized k (bytes ++ more) (digits_at 4 (bytes ++ more)) ≡ Err f
sized_stays k bytes more f (Err Short) is e = absurd cc
sized_stays k bytes more f (Err Bad) is e = rw (digits_stay bytes more (Err Bad) is (λ s. absurd cc)) e
sized_stays k bytes more f (Ok x) is e =
    let end : IsEnd x.1 bytes = digits_rest 4 bytes x is in
    let short : length x.1 ≤ length bytes = end.short in
    let before : suc (length (bytes ++ more)) - length (x.1 ++ more) ≡ suc (length bytes) - length x.1 = omega (arith, short, length-append bytes more, length-append x.1 more) in
    rw (digits_stay bytes more (Ok x) is (λ s. absurd cc), before) (body_stays k (suc (length bytes) - length x.1) x.0 x.1 more f e)

pub err_stays : (bytes more : List ℕ) (f : PacketFault) → answer bytes ≡ Err f → answer (bytes ++ more) ≡ Err f
unfolding answer
err_stays [] more f e = absurd cc
err_stays (first ∷ bytes) more f e = by (kind_of first) e
  where
    by : (r : Result PacketKind PacketFault) → (r >>= λ k. sized k bytes (digits_at 4 bytes)) ≡ Err f → (r >>= λ k. sized k (bytes ++ more) (digits_at 4 (bytes ++ more))) ≡ Err f
    by (Err d) e = e
    by (Ok k) e = sized_stays k bytes more f (digits_at 4 bytes) refl e

pub fault_stays : (f : PacketFault) (bytes more : List ℕ) → IsFaulty bytes f → IsFaulty (bytes ++ more) f
fault_stays NoMemory bytes more h = tt
fault_stays Malformed bytes more h = err_stays bytes more Malformed h
fault_stays Protocol bytes more h = err_stays bytes more Protocol h
fault_stays TooLarge bytes more h = err_stays bytes more TooLarge h
fault_stays Version bytes more h = err_stays bytes more Version h

-- ---- how many bytes to hold

-- what `needed_len` says of its number
pub record IsNeededLen (bytes : List ℕ) (n : ℕ) : Type 0 where
  pub short : length bytes < n → IsMore bytes
  pub needed : (more : List ℕ) → length (bytes ++ more) < n → IsMore (bytes ++ more)
  pub enough : n ≤ length bytes → answer (take n bytes) ≡ answer bytes
  pub waits : IsMore bytes → length bytes < n
  pub whole : (p : Packet) (m : ℕ) → answer bytes ≡ Ok (Whole p m) → n ≡ m
  pub sized : (more : List ℕ) (p : Packet) (m : ℕ) → 5 ≤ length bytes → answer (bytes ++ more) ≡ Ok (Whole p m) → n ≡ m

-- no byte
pub no_byte : IsNeededLen [] 1
unfolding answer
no_byte = record {
  short = λ lt. refl;
  needed = λ more lt. ap answer (nil_from_length more (omega (arith, lt)));
  enough = λ le. absurd (omega (arith, le));
  waits = λ is. omega arith;
  whole = λ p m e. absurd cc;
  sized = λ more p m le e. absurd (omega (arith, le));
}

-- a fault: all bytes that were given stay
pub faulty : (bytes : List ℕ) (f : PacketFault) → answer bytes ≡ Err f → IsNeededLen bytes (length bytes)
faulty bytes f e = record {
  short = λ lt. absurd (omega (arith, lt));
  needed = λ more lt. absurd (omega (arith, lt, length-append bytes more));
  enough = λ le. ap answer (take_all (length bytes) bytes (omega arith));
  waits = λ is. absurd (let x : ◌≡◌ {A = Result Decoded PacketFault} (Err f) (Ok More) = sym e ∙ is in cc);
  whole = λ p m is. absurd (let x : ◌≡◌ {A = Result Decoded PacketFault} (Err f) (Ok (Whole p m)) = sym e ∙ is in cc);
  sized = λ more p m le is. absurd (let x : ◌≡◌ {A = Result Decoded PacketFault} (Err f) (Ok (Whole p m)) = sym (err_stays bytes more f e) ∙ is in cc);
}

pub faulty_kind : (first : ℕ) (bytes : List ℕ) (f : PacketFault) → kind_of first ≡ Err f → IsNeededLen (first ∷ bytes) (suc (length bytes))
unfolding answer
faulty_kind first bytes f e = faulty (first ∷ bytes) f (rw e refl)

pub faulty_length : (first : ℕ) (bytes : List ℕ) (k : PacketKind) → kind_of first ≡ Ok k → digits_at 4 bytes ≡ Err Bad → IsNeededLen (first ∷ bytes) (suc (length bytes))
unfolding answer
faulty_length first bytes k e d = faulty (first ∷ bytes) Malformed (rw (e, d) refl)

pub too_large : (first : ℕ) (bytes rest : List ℕ) (k : PacketKind) (n : ℕ) → kind_of first ≡ Ok k → digits_at 4 bytes ≡ Ok (n, rest) → MAX_PACKET_SIZE < suc (length bytes) - length rest + n → IsNeededLen (first ∷ bytes) (suc (length bytes))
unfolding answer
too_large first bytes rest k n e d lt = faulty (first ∷ bytes) TooLarge (let t : ltb MAX_PACKET_SIZE (suc (length bytes) - length rest + n) ≡ true = lt-ltb _ _ lt in rw (e, d, t) refl)

-- a length that goes on, of fewer bytes than a length may have
digits_short : (k : ℕ) (bytes : List ℕ) → digits_at k bytes ≡ Err Short → length bytes < k
unfolding digits_at
digits_short zero bytes e = absurd cc
digits_short (suc k) [] e = omega arith
digits_short (suc k) (b ∷ bytes) e = by (ltb b 128) (digits_at k bytes) (digits_short k bytes) e
  where
    ended : (t : Bool) (n : ℕ) (rest : List ℕ) → cond {A = Result (ℕ × List ℕ) VarintFault} t (Err Bad) (Ok (n, rest)) ≡ Err Short → ⊥
    ended true n rest e = absurd cc
    ended false n rest e = absurd cc

    by : (t : Bool) (r : Result (ℕ × List ℕ) VarintFault) → (r ≡ Err Short → length bytes < k)
        → cond {A = Result (ℕ × List ℕ) VarintFault} t (Ok (b, bytes)) (r >>= λ high. cond (eqb high.0 0) (Err Bad) (Ok (b - 128 + 128 * high.0, high.1))) ≡ Err Short → suc (length bytes) < suc k
    by true r again e = absurd cc
    by false (Ok x) again e = absurd (ended (eqb x.0 0) (b - 128 + 128 * x.0) x.1 e)
    by false (Err Bad) again e = absurd cc
    by false (Err Short) again e = let lt : length bytes < k = again refl in omega (arith, lt)

cut_length : (first : ℕ) (bytes : List ℕ) (k : PacketKind) → kind_of first ≡ Ok k → digits_at 4 bytes ≡ Err Short → answer (first ∷ bytes) ≡ Ok More
unfolding answer
cut_length first bytes k e d = rw (e, d) refl

pub in_length : (first : ℕ) (bytes : List ℕ) (k : PacketKind) → kind_of first ≡ Ok k → digits_at 4 bytes ≡ Err Short → IsNeededLen (first ∷ bytes) (suc (suc (length bytes)))
in_length first bytes k e d =
    let is = cut_length first bytes k e d in
    record {
      short = λ lt. is;
      needed = λ more lt. ap (λ (m : List ℕ). answer (first ∷ (bytes ++ m))) (nil_from_length more (omega (arith, lt, length-append bytes more))) ∙ ap (λ (m : List ℕ). answer (first ∷ m)) (append-nil bytes) ∙ is;
      enough = λ le. absurd (omega (arith, le));
      waits = λ more. omega arith;
      whole = λ p m w. absurd (let x : ◌≡◌ {A = Result Decoded PacketFault} (Ok More) (Ok (Whole p m)) = sym is ∙ w in cc);
      sized = λ more p m le w. absurd (let lt : length bytes < 4 = digits_short 4 bytes d in omega (arith, le, lt));
    }

-- a good length
answer_is : (first : ℕ) (bytes : List ℕ) (k : PacketKind) (x : ℕ × List ℕ) → kind_of first ≡ Ok k → digits_at 4 bytes ≡ Ok x → answer (first ∷ bytes) ≡ body_at k (suc (length bytes) - length x.1) x.0 x.1
unfolding answer
answer_is first bytes k x e d = rw (e, d) refl

framed : (first n : ℕ) (k : PacketKind) (rest : List ℕ) → kind_of first ≡ Ok k → n < varint_end → answer (first ∷ (varint n ++ rest)) ≡ body_at k (suc (length (varint n))) n rest
framed first n k rest e lt =
    let before : suc (length (varint n ++ rest)) - length rest ≡ suc (length (varint n)) = omega (arith, length-append (varint n) rest) in
    answer_is first (varint n ++ rest) k (n, rest) e (digits_again 4 n rest lt (omega arith)) ∙ ap (λ (b : ℕ). body_at k b n rest) before

body_waits : (k : PacketKind) (before n : ℕ) (rest : List ℕ) → before + n ≤ MAX_PACKET_SIZE → length rest < n → body_at k before n rest ≡ Ok More
body_waits k before n rest small lt =
    let a : ltb MAX_PACKET_SIZE (before + n) ≡ false = le-ltb _ _ small in
    let b : ltb (length rest) n ≡ true = lt-ltb _ _ lt in
    rw (a, b) refl

body_reads : (k : PacketKind) (before n : ℕ) (rest : List ℕ) → before + n ≤ MAX_PACKET_SIZE → n ≤ length rest → body_at k before n rest ≡ (packet_at k (take n rest) >>= λ p. Ok (Whole p (before + n)))
body_reads k before n rest small le =
    let a : ltb MAX_PACKET_SIZE (before + n) ≡ false = le-ltb _ _ small in
    let b : ltb (length rest) n ≡ false = le-ltb _ _ le in
    rw (a, b) refl

read_is_not_more : (r : Result Packet PacketFault) (m : ℕ) → (r >>= λ p. Ok (Whole p m)) ≡ Ok More → ⊥
read_is_not_more (Ok p) m e = absurd cc
read_is_not_more (Err f) m e = absurd cc

size_is : (p q : Packet) (m n : ℕ) → ◌≡◌ {A = Result Decoded PacketFault} (Ok (Whole p m)) (Ok (Whole q n)) → m ≡ n
size_is p q m n e = cc

read_size : (r : Result Packet PacketFault) (m : ℕ) (p : Packet) (n : ℕ) → (r >>= λ p. Ok (Whole p m)) ≡ Ok (Whole p n) → m ≡ n
read_size (Ok q) m p n e = size_is q p m n e
read_size (Err f) m p n e = absurd cc

in_frame : (first n : ℕ) (k : PacketKind) (rest : List ℕ) → kind_of first ≡ Ok k → n < varint_end → suc (length (varint n)) + n ≤ MAX_PACKET_SIZE → IsNeededLen (first ∷ (varint n ++ rest)) (suc (length (varint n)) + n)
in_frame first n k rest e lt small =
    let before : ℕ = suc (length (varint n)) in
    let len : length (varint n ++ rest) ≡ length (varint n) + length rest = length-append (varint n) rest in
    record {
      short = λ l. framed first n k rest e lt ∙ body_waits k (suc (length (varint n))) n rest small (omega (arith, l, len));
      needed = λ more l.
          ap (λ (m : List ℕ). answer (first ∷ m)) (append_assoc (varint n) rest more) ∙ framed first n k (rest ++ more) e lt
          ∙ body_waits k (suc (length (varint n))) n (rest ++ more) small (omega (arith, l, len, length-append (varint n ++ rest) more, length-append rest more));
      enough = λ l.
          let le : n ≤ length rest = omega (arith, l, len) in
          let same : length (take n rest) ≡ n = length-take-le n rest le in
          let front : take (suc (length (varint n)) + n) (first ∷ (varint n ++ rest)) ≡ first ∷ (varint n ++ take n rest) = take-append_past (first ∷ varint n) rest n (suc (length (varint n)) + n) refl in
          ap answer front ∙ framed first n k (take n rest) e lt ∙ body_reads k (suc (length (varint n))) n (take n rest) small (omega (arith, same))
          ∙ ap (λ (b : List ℕ). packet_at k b >>= λ p. Ok (Whole p (suc (length (varint n)) + n))) (take_all n (take n rest) (omega (arith, same)))
          ∙ sym (body_reads k (suc (length (varint n))) n rest small le) ∙ sym (framed first n k rest e lt);
      waits = λ is.
          elim (cases_lt (length rest) n) [
            | inl l ↦ omega (arith, l, len)
            | inr le ↦ absurd (read_is_not_more (packet_at k (take n rest)) (suc (length (varint n)) + n) (sym (body_reads k (suc (length (varint n))) n rest small le) ∙ sym (framed first n k rest e lt) ∙ is))
          ];
      whole = λ p m is.
          elim (cases_lt (length rest) n) [
            | inl l ↦ absurd (let x : ◌≡◌ {A = Result Decoded PacketFault} (Ok More) (Ok (Whole p m)) = sym (body_waits k (suc (length (varint n))) n rest small l) ∙ sym (framed first n k rest e lt) ∙ is in cc)
            | inr le ↦ read_size (packet_at k (take n rest)) (suc (length (varint n)) + n) p m (sym (body_reads k (suc (length (varint n))) n rest small le) ∙ sym (framed first n k rest e lt) ∙ is)
          ];
      sized = λ more p m five is.
          let at : body_at k (suc (length (varint n))) n (rest ++ more) ≡ Ok (Whole p m) =
          sym (framed first n k (rest ++ more) e lt) ∙ sym (ap (λ (m : List ℕ). answer (first ∷ m)) (append_assoc (varint n) rest more)) ∙ is in
          elim (cases_lt (length (rest ++ more)) n) [
            | inl l ↦ absurd (let x : ◌≡◌ {A = Result Decoded PacketFault} (Ok More) (Ok (Whole p m)) = sym (body_waits k (suc (length (varint n))) n (rest ++ more) small l) ∙ at in cc)
            | inr le ↦ read_size (packet_at k (take n (rest ++ more))) (suc (length (varint n)) + n) p m (sym (body_reads k (suc (length (varint n))) n (rest ++ more) small le) ∙ at)
          ];
    }

pub in_body : (first : ℕ) (bytes rest : List ℕ) (k : PacketKind) (n : ℕ) → IsBytes bytes → kind_of first ≡ Ok k → digits_at 4 bytes ≡ Ok (n, rest) → suc (length bytes) - length rest + n ≤ MAX_PACKET_SIZE → IsNeededLen (first ∷ bytes) (suc (length bytes) - length rest + n)
in_body first bytes rest k n fits e d small =
    let t = digits_takes 4 bytes (n, rest) fits d in
    let size : suc (length (varint n)) + n ≡ suc (length bytes) - length rest + n = omega (arith, ap length t.0.parts, length-append (varint n) rest) in
    let made : IsNeededLen (first ∷ (varint n ++ rest)) (suc (length (varint n)) + n) = in_frame first n k rest e t.1 (omega (arith, size, small)) in
    subst (λ (m : ℕ). IsNeededLen (first ∷ bytes) m) size (subst (λ (b : List ℕ). IsNeededLen (first ∷ b) (suc (length (varint n)) + n)) (sym t.0.parts) made)

-- ---- by the header

-- how many bytes to hold, by what the first ones say
abbrev pub needed : List ℕ → Result (Option Header) PacketFault → ℕ
needed bytes (Err f) = length bytes
needed bytes (Ok None) = length bytes + 1
needed bytes (Ok (Some h)) = h.size

in_header : (first : ℕ) (bytes : List ℕ) (k : PacketKind) (d : Result (ℕ × List ℕ) VarintFault) → IsBytes bytes → kind_of first ≡ Ok k → digits_at 4 bytes ≡ d → IsNeededLen (first ∷ bytes) (needed (first ∷ bytes) (header_in k bytes d))
in_header first bytes k (Err Short) fits e is =
    let more : suc (suc (length bytes)) ≡ suc (length bytes) + 1 = omega arith in
    subst (λ (n : ℕ). IsNeededLen (first ∷ bytes) n) more (in_length first bytes k e is)
in_header first bytes k (Err Bad) fits e is = faulty_length first bytes k e is
in_header first bytes k (Ok n) fits e is = by (ltb MAX_PACKET_SIZE (suc (length bytes) - length n.1 + n.0)) refl
  where
    h : Header
    h = record { kind = k; start = suc (length bytes) - length n.1; size = suc (length bytes) - length n.1 + n.0 }

    by : (t : Bool) → ltb MAX_PACKET_SIZE (suc (length bytes) - length n.1 + n.0) ≡ t → IsNeededLen (first ∷ bytes) (needed (first ∷ bytes) (cond t (Err TooLarge) (Ok (Some h))))
    by true t = too_large first bytes n.1 k n.0 e is (ltb-true _ _ t)
    by false t = in_body first bytes n.1 k n.0 fits e is (ltb-false _ _ t)

pub by_header : (bytes : List ℕ) → IsBytes bytes → IsNeededLen bytes (needed bytes (header_at bytes))
unfolding header_at
by_header [] fits = no_byte
by_header (first ∷ bytes) fits = by (kind_of first) refl
  where
    by : (r : Result PacketKind PacketFault) → kind_of first ≡ r → IsNeededLen (first ∷ bytes) (needed (first ∷ bytes) (r >>= λ k. header_in k bytes (digits_at 4 bytes)))
    by (Err f) e = faulty_kind first bytes f e
    by (Ok k) e = in_header first bytes k (digits_at 4 bytes) (IsBytes-rest first bytes fits) e refl

-- the answer, once the header is read
abbrev pub by_size : List ℕ → Option Header → Result Decoded PacketFault
by_size bytes None = Ok More
by_size bytes (Some h) = packet_in bytes h

sized_in : (first : ℕ) (bytes : List ℕ) (k : PacketKind) (d : Result (ℕ × List ℕ) VarintFault) → digits_at 4 bytes ≡ d → (header_in k bytes d >>= by_size (first ∷ bytes)) ≡ sized k bytes d
sized_in first bytes k (Err Short) is = refl
sized_in first bytes k (Err Bad) is = refl
sized_in first bytes k (Ok n) is = by (ltb MAX_PACKET_SIZE (suc (length bytes) - length n.1 + n.0))
  where
    end : IsEnd n.1 bytes
    end = digits_rest 4 bytes n is

    h : Header
    h = record { kind = k; start = suc (length bytes) - length n.1; size = suc (length bytes) - length n.1 + n.0 }

    body : slice_range (first ∷ bytes) (suc (length bytes) - length n.1) (suc (length bytes) - length n.1 + n.0) ≡ take n.0 n.1
    body = cut (first ∷ bytes) n.1 n.0 (IsEnd-next first bytes n.1 end)

    same_test : (s t : Bool) → ltb (suc (length bytes)) (suc (length bytes) - length n.1 + n.0) ≡ s → ltb (length n.1) n.0 ≡ t → s ≡ t
    same_test true true a b = refl
    same_test false false a b = refl
    same_test true false a b = absurd (let x = ltb-true _ _ a in let y = ltb-false _ _ b in omega (arith, x, y, end.short))
    same_test false true a b = absurd (let x = ltb-false _ _ a in let y = ltb-true _ _ b in omega (arith, x, y, end.short))

    by : (t : Bool) → (cond t (Err TooLarge) (Ok (Some h)) >>= by_size (first ∷ bytes))
        ≡ cond t (Err TooLarge) (cond (ltb (length n.1) n.0) (Ok More) (packet_at k (take n.0 n.1) >>= λ p. Ok (Whole p (suc (length bytes) - length n.1 + n.0))))
    by true = refl
    by false = rw (body, same_test _ _ refl refl) refl

-- the answer is that of the header, and then of the packet
pub answer_by_header : (bytes : List ℕ) → (header_at bytes >>= by_size bytes) ≡ answer bytes
unfolding header_at answer
answer_by_header [] = refl
answer_by_header (first ∷ bytes) = by (kind_of first)
  where
    by : (r : Result PacketKind PacketFault) → ((r >>= λ k. header_in k bytes (digits_at 4 bytes)) >>= by_size (first ∷ bytes)) ≡ (r >>= λ k. sized k bytes (digits_at 4 bytes))
    by (Err f) = refl
    by (Ok k) = sized_in first bytes k (digits_at 4 bytes) refl

-- the place of the body
pub record HasBody (bytes : List ℕ) (h : Header) : Type 0 where
  pub start_fits : h.start ≤ h.size
  pub body_fits : h.size - h.start ≤ MAX_PACKET_SIZE

body_of : (bytes : List ℕ) (k : PacketKind) (d : Result (ℕ × List ℕ) VarintFault) (h : Header) → header_in k bytes d ≡ Ok (Some h) → HasBody bytes h
body_of bytes k (Err Short) h e = absurd cc
body_of bytes k (Err Bad) h e = absurd cc
body_of bytes k (Ok n) h e = by (ltb MAX_PACKET_SIZE (suc (length bytes) - length n.1 + n.0)) refl e
  where
    made : Header
    made = record { kind = k; start = suc (length bytes) - length n.1; size = suc (length bytes) - length n.1 + n.0 }

    by : (t : Bool) → ltb MAX_PACKET_SIZE (suc (length bytes) - length n.1 + n.0) ≡ t → cond {A = Result (Option Header) PacketFault} t (Err TooLarge) (Ok (Some made)) ≡ Ok (Some h) → HasBody bytes h
    by true t e = absurd cc
    by false t e =
        let same : made ≡ h = cc in
        let le = ltb-false _ _ t in
        subst (λ (x : Header). HasBody bytes x) same (record { start_fits = omega arith; body_fits = omega (arith, le) })

pub header_body : (bytes : List ℕ) (h : Header) → header_at bytes ≡ Ok (Some h) → HasBody bytes h
unfolding header_at
header_body [] h e = absurd cc
header_body (first ∷ bytes) h e = by (kind_of first) e
  where
    by : (r : Result PacketKind PacketFault) → (r >>= λ k. header_in k bytes (digits_at 4 bytes)) ≡ Ok (Some h) → HasBody (first ∷ bytes) h
    by (Err f) e = absurd cc
    by (Ok k) e = let b = body_of bytes k (digits_at 4 bytes) h e in record { start_fits = b.start_fits; body_fits = b.body_fits }

-- the same, of the bytes as they were read
from_given : (given bytes : List ℕ) (r : Result (Option Header) PacketFault) → given ≡ bytes → r ≡ header_at given → (r >>= by_size bytes) ≡ answer bytes
from_given given bytes r same e = ap (λ (x : Result (Option Header) PacketFault). x >>= by_size bytes) (e ∙ ap header_at same) ∙ answer_by_header bytes

pub body_from_given : (given bytes : List ℕ) (h : Header) → given ≡ bytes → Ok (Some h) ≡ header_at given → HasBody bytes h
body_from_given given bytes h same e = header_body bytes h (sym (e ∙ ap header_at same))

pub packet_answer : (given bytes : List ℕ) (h : Header) (r : Result Decoded PacketFault) → given ≡ bytes → Ok (Some h) ≡ header_at given → Gives (λ d. d) r (packet_in bytes h) → Gives (λ d. d) r (answer bytes)
packet_answer given bytes h r same e g = subst (λ (x : Result Decoded PacketFault). Gives (λ (d : Decoded). d) r x) (from_given given bytes (Ok (Some h)) same e) g

pub more_answer : (given bytes : List ℕ) → given ≡ bytes → Ok None ≡ header_at given → answer bytes ≡ Ok More
more_answer given bytes same e = sym (from_given given bytes (Ok None) same e)

err_fails : (f : PacketFault) (r : Result Decoded PacketFault) → r ≡ Err f → Fails f r
err_fails NoMemory r e = tt
err_fails Malformed r e = e
err_fails Protocol r e = e
err_fails TooLarge r e = e
err_fails Version r e = e

pub fault_answer : (given bytes : List ℕ) (f : PacketFault) → given ≡ bytes → Err f ≡ header_at given → Fails f (answer bytes)
fault_answer given bytes f same e = err_fails f (answer bytes) (sym (from_given given bytes (Err f) same e))

pub needed_is : (bytes : List ℕ) (r : Result (Option Header) PacketFault) → IsBytes bytes → r ≡ header_at bytes → IsNeededLen bytes (needed bytes r)
needed_is bytes r fits e = subst (λ (x : Result (Option Header) PacketFault). IsNeededLen bytes (needed bytes x)) (sym e) (by_header bytes fits)
