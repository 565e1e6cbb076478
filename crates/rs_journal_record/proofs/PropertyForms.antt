-- The properties of a message: what is read was encoded so, what is encoded is read again, and more bytes behind them change nothing.
use Rattle.std.proofs.Common.{◌≡◌, ℕ, zero, suc, ◌<◌, ◌^◌, List, [], ◌∷◌, ◌++◌, length, Option, Some, None, Result, Ok, refl, sym, ap, subst, ◌∙◌, append_assoc, arith}
use Rattle.std.specs.Prelude.{IfSome}
use Rattle.std.specs.Int.{w32}
use Rattle.std.specs.List.{All, flat_map}
use Rattle.std.proofs.lemmas.List.Elements.{All-nil, All-cons}
use Rattle.rs_topic.specs.Texts.{IsText}
use Rattle.rs_packet_property.specs.Forms.{four, counted, IsShort}
use Rattle.rs_packet_property.specs.Values.{PropertiesValue}
use Rattle.rs_packet_field.specs.Reading.{◌>>=◌, byte_at, number_at, binary_at}
use Rattle.rs_packet_field.proofs.Numbers.{bind_ok}
use Rattle.rs_packet_field.proofs.Fields.{IsBytes, Takes, Takes-then, wide32, number_takes, number_again, binary_takes, binary_again}
use Rattle.rs_journal_record.specs.declared.fault.RecordFault.{RecordFault}
use Rattle.rs_journal_record.specs.Fields.{single, maybe, or_cut_off, text_at, maybe_at}
use Rattle.rs_journal_record.specs.Properties.{pair_form, user_form, properties_form, pair_at, pairs_at, user_at, properties_at, HaveForms}
use Rattle.rs_journal_record.proofs.FieldForms.{cut_off_ok, byte_takes, text_takes, maybe_takes, text_again, maybe_again, Stays, stays_then, byte_stays, number_stays, binary_stays, text_stays, maybe_stays}

-- ---- what is read was encoded so

abbrev AreTexts : List ℕ × List ℕ → Type 0
AreTexts pair = IsText pair.0 × IsText pair.1

abbrev Pairs : Type 0
Pairs = List (List ℕ × List ℕ)

pair_takes : (bytes : List ℕ) (x : (List ℕ × List ℕ) × List ℕ) → IsBytes bytes → pair_at bytes ≡ Ok x → Takes bytes (pair_form x.0) x.1 × AreTexts x.0
unfolding pair_at
pair_takes bytes x fits e =
    let name = bind_ok (text_at bytes) _ x e in
    let s = text_takes bytes name.0 fits name.1 in
    let value = bind_ok (text_at name.0.1) _ x name.2 in
    let t = text_takes name.0.1 value.0 s.0.rest_fits value.1 in
    let same : ((name.0.0, value.0.0), value.0.1) ≡ x = cc (value.2) in
    subst (λ (y : (List ℕ × List ℕ) × List ℕ). Takes bytes (pair_form y.0) y.1 × AreTexts y.0) same
    (Takes-then bytes (counted name.0.0) name.0.1 (counted value.0.0) value.0.1 s.0 t.0, (s.1, t.1))

pub record PairsTake (n : ℕ) (bytes : List ℕ) (pairs : Pairs) (rest : List ℕ) : Type 0 where
  pub takes : Takes bytes (flat_map pair_form pairs) rest
  pub texts : All AreTexts pairs
  pub count : length pairs ≡ n

pairs_take : (n : ℕ) (bytes : List ℕ) (x : Pairs × List ℕ) → IsBytes bytes → pairs_at n bytes ≡ Ok x → PairsTake n bytes x.0 x.1
unfolding pairs_at
pairs_take zero bytes x fits e =
    let same : ([], bytes) ≡ x = cc in
    subst (λ (y : Pairs × List ℕ). PairsTake zero bytes y.0 y.1) same (record { takes = record { parts = refl; rest_fits = fits }; texts = All-nil AreTexts; count = refl })
pairs_take (suc n) bytes x fits e =
    let pair = bind_ok (pair_at bytes) _ x e in
    let t = pair_takes bytes pair.0 fits pair.1 in
    let more = bind_ok (pairs_at n pair.0.1) _ x pair.2 in
    let h = pairs_take n pair.0.1 more.0 t.0.rest_fits more.1 in
    let same : (pair.0.0 ∷ more.0.0, more.0.1) ≡ x = cc (more.2) in
    subst (λ (y : Pairs × List ℕ). PairsTake (suc n) bytes y.0 y.1) same (record {
      takes = Takes-then bytes (pair_form pair.0.0) pair.0.1 (flat_map pair_form more.0.0) more.0.1 t.0 h.takes;
      texts = All-cons AreTexts pair.0.0 more.0.0 t.1 h.texts;
      count = ap suc h.count;
    })

abbrev HaveTexts : Pairs → Type 0
HaveTexts pairs = All AreTexts pairs × (length pairs < 2 ^ 32)

user_takes : (bytes : List ℕ) (x : Pairs × List ℕ) → IsBytes bytes → user_at bytes ≡ Ok x → Takes bytes (user_form x.0) x.1 × HaveTexts x.0
unfolding user_at
user_takes bytes x fits e =
    let n = bind_ok (or_cut_off (number_at w32 bytes)) _ x e in
    let t = number_takes w32 (2 ^ 32) wide32 bytes n.0 fits (cut_off_ok (number_at w32 bytes) n.0 n.1) in
    let p = pairs_take n.0.0 n.0.1 x t.0.rest_fits n.2 in
    let counts : four n.0.0 ≡ four (length x.0) = ap four (sym p.count) in (
      subst (λ (text : List ℕ). Takes bytes (text ++ flat_map pair_form x.0) x.1) counts (Takes-then bytes (four n.0.0) n.0.1 (flat_map pair_form x.0) x.1 t.0 p.takes),
      (p.texts, subst (λ (k : ℕ). k < 2 ^ 32) (sym p.count) t.1),
    )

abbrev IsAny : ℕ → Type 0
IsAny n = Unit {0}

binary_at_takes : (bytes : List ℕ) (x : List ℕ × List ℕ) → IsBytes bytes → or_cut_off (binary_at bytes) ≡ Ok x → Takes bytes (counted x.0) x.1 × IsShort x.0
binary_at_takes bytes x fits e = binary_takes bytes x fits (cut_off_ok (binary_at bytes) x e)

pub properties_takes : (bytes : List ℕ) (x : PropertiesValue × List ℕ) → IsBytes bytes → properties_at bytes ≡ Ok x → Takes bytes (properties_form x.0) x.1 × HaveForms x.0
unfolding properties_at
properties_takes bytes x fits e =
    let f = bind_ok (maybe_at (λ b. or_cut_off (byte_at b)) bytes) _ x e in
    let a = maybe_takes single (λ b. or_cut_off (byte_at b)) IsAny (λ b y h is. (byte_takes b y h is, tt)) bytes f.0 fits f.1 in
    let c = bind_ok (maybe_at text_at f.0.1) _ x f.2 in
    let b = maybe_takes counted text_at IsText text_takes f.0.1 c.0 a.0.rest_fits c.1 in
    let r = bind_ok (maybe_at text_at c.0.1) _ x c.2 in
    let g = maybe_takes counted text_at IsText text_takes c.0.1 r.0 b.0.rest_fits r.1 in
    let d = bind_ok (maybe_at (λ b. or_cut_off (binary_at b)) r.0.1) _ x r.2 in
    let h = maybe_takes counted (λ b. or_cut_off (binary_at b)) IsShort binary_at_takes r.0.1 d.0 g.0.rest_fits d.1 in
    let u = bind_ok (user_at d.0.1) _ x d.2 in
    let k = user_takes d.0.1 u.0 h.0.rest_fits u.1 in
    let p : PropertiesValue = record { format = f.0.0; content_type = c.0.0; response_topic = r.0.0; correlation = d.0.0; user = u.0.0 } in
    let same : (p, u.0.1) ≡ x = cc (u.2) in
    let two = Takes-then bytes (maybe single f.0.0) f.0.1 (maybe counted c.0.0) c.0.1 a.0 b.0 in
    let three = Takes-then bytes (maybe single f.0.0 ++ maybe counted c.0.0) c.0.1 (maybe counted r.0.0) r.0.1 two g.0 in
    let front = Takes-then bytes (maybe single f.0.0 ++ maybe counted c.0.0 ++ maybe counted r.0.0) r.0.1 (maybe counted d.0.0) d.0.1 three h.0 in
    let all = Takes-then bytes (maybe single f.0.0 ++ maybe counted c.0.0 ++ maybe counted r.0.0 ++ maybe counted d.0.0) d.0.1 (user_form u.0.0) u.0.1 front k.0 in
    subst (λ (y : PropertiesValue × List ℕ). Takes bytes (properties_form y.0) y.1 × HaveForms y.0) same
    (all, record { content_type_fits = b.1; response_topic_fits = g.1; correlation_fits = h.1; user_fits = k.1.0; few = k.1.1 })

-- ---- what is encoded is read again, whatever follows

pair_again : (pair : List ℕ × List ℕ) (rest : List ℕ) → AreTexts pair → pair_at (pair_form pair ++ rest) ≡ Ok (pair, rest)
unfolding pair_at
pair_again (name, value) rest h = ap pair_at (append_assoc (counted name) (counted value) rest) ∙ rw (text_again name (counted value ++ rest) h.0, text_again value rest h.1) refl

pairs_again : (pairs : Pairs) (rest : List ℕ) → All AreTexts pairs → pairs_at (length pairs) (flat_map pair_form pairs ++ rest) ≡ Ok (pairs, rest)
unfolding pairs_at
pairs_again [] rest h = refl
pairs_again (pair ∷ pairs) rest h =
    ap (pairs_at (suc (length pairs))) (append_assoc (pair_form pair) (flat_map pair_form pairs) rest)
    ∙ rw (pair_again pair (flat_map pair_form pairs ++ rest) (h 0 pair (omega arith)), pairs_again pairs rest (λ k d lt. h (suc k) d (omega (arith, lt)))) refl

user_again : (pairs : Pairs) (rest : List ℕ) → length pairs < 2 ^ 32 → All AreTexts pairs → user_at (user_form pairs ++ rest) ≡ Ok (pairs, rest)
unfolding user_at
user_again pairs rest few h =
    ap user_at (append_assoc (four (length pairs)) (flat_map pair_form pairs) rest)
    ∙ rw (number_again w32 (2 ^ 32) wide32 (length pairs) (flat_map pair_form pairs ++ rest) few) (pairs_again pairs rest h)

if_byte : (o : Option ℕ) (rest : List ℕ) → IfSome o (λ x. or_cut_off (byte_at (single x ++ rest)) ≡ Ok (x, rest))
if_byte None rest = tt
if_byte (Some n) rest = refl

if_text : (o : Option (List ℕ)) (rest : List ℕ) → IfSome o IsText → IfSome o (λ x. text_at (counted x ++ rest) ≡ Ok (x, rest))
if_text None rest h = tt
if_text (Some t) rest h = text_again t rest h

if_binary : (o : Option (List ℕ)) (rest : List ℕ) → IfSome o IsShort → IfSome o (λ x. or_cut_off (binary_at (counted x ++ rest)) ≡ Ok (x, rest))
if_binary None rest h = tt
if_binary (Some t) rest h = ap or_cut_off (binary_again t rest h)

pub properties_again : (p : PropertiesValue) (rest : List ℕ) → HaveForms p → properties_at (properties_form p ++ rest) ≡ Ok (p, rest)
unfolding properties_at
properties_again p rest h =
    let at5 = user_form p.user ++ rest in
    let at4 = maybe counted p.correlation ++ at5 in
    let at3 = maybe counted p.response_topic ++ at4 in
    let at2 = maybe counted p.content_type ++ at3 in
    let joined : properties_form p ++ rest ≡ maybe single p.format ++ at2 = simp append_assoc refl in
    ap properties_at joined ∙ rw (
      maybe_again single (λ b. or_cut_off (byte_at b)) p.format at2 (if_byte p.format at2),
      maybe_again counted text_at p.content_type at3 (if_text p.content_type at3 h.content_type_fits),
      maybe_again counted text_at p.response_topic at4 (if_text p.response_topic at4 h.response_topic_fits),
      maybe_again counted (λ b. or_cut_off (binary_at b)) p.correlation at5 (if_binary p.correlation at5 h.correlation_fits),
      user_again p.user rest h.few h.user_fits,
    ) refl

-- ---- more bytes behind them change nothing

pair_stays : (more bytes : List ℕ) → Stays more (pair_at bytes) (pair_at (bytes ++ more))
unfolding pair_at
pair_stays more bytes =
    stays_then more (text_at bytes) (text_at (bytes ++ more)) (λ name. text_at name.1 >>= λ value. Ok ((name.0, value.0), value.1)) (text_stays more bytes)
    (λ name rest. stays_then more (text_at rest) (text_at (rest ++ more)) (λ value. Ok ((name, value.0), value.1)) (text_stays more rest) (λ value after. refl))

pairs_stay : (n : ℕ) (more bytes : List ℕ) → Stays more (pairs_at n bytes) (pairs_at n (bytes ++ more))
unfolding pairs_at
pairs_stay zero more bytes = refl
pairs_stay (suc n) more bytes =
    stays_then more (pair_at bytes) (pair_at (bytes ++ more)) (λ pair. pairs_at n pair.1 >>= λ x. Ok (pair.0 ∷ x.0, x.1)) (pair_stays more bytes)
    (λ pair rest. stays_then more (pairs_at n rest) (pairs_at n (rest ++ more)) (λ x. Ok (pair ∷ x.0, x.1)) (pairs_stay n more rest) (λ pairs after. refl))

user_stays : (more bytes : List ℕ) → Stays more (user_at bytes) (user_at (bytes ++ more))
unfolding user_at
user_stays more bytes =
    stays_then more (or_cut_off (number_at w32 bytes)) (or_cut_off (number_at w32 (bytes ++ more))) (λ n. pairs_at n.0 n.1) (number_stays w32 more bytes)
    (λ n rest. pairs_stay n more rest)

pub properties_stay : (more bytes : List ℕ) → Stays more (properties_at bytes) (properties_at (bytes ++ more))
unfolding properties_at
properties_stay more bytes =
    let byte : List ℕ → Result (ℕ × List ℕ) RecordFault = λ b. or_cut_off (byte_at b) in
    let binary : List ℕ → Result (List ℕ × List ℕ) RecordFault = λ b. or_cut_off (binary_at b) in
    stays_then more (maybe_at byte bytes) (maybe_at byte (bytes ++ more)) _ (maybe_stays byte byte_stays more bytes)
    (λ f at1. stays_then more (maybe_at text_at at1) (maybe_at text_at (at1 ++ more)) _ (maybe_stays text_at text_stays more at1)
    (λ c at2. stays_then more (maybe_at text_at at2) (maybe_at text_at (at2 ++ more)) _ (maybe_stays text_at text_stays more at2)
    (λ r at3. stays_then more (maybe_at binary at3) (maybe_at binary (at3 ++ more)) _ (maybe_stays binary binary_stays more at3)
    (λ d at4. stays_then more (user_at at4) (user_at (at4 ++ more)) (λ u. Ok (record { format = f; content_type = c; response_topic = r; correlation = d; user = u.0 }, u.1)) (user_stays more at4)
    (λ u rest. refl)))))
