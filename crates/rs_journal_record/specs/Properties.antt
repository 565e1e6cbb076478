-- The properties of a message (3.3.2.3) as bytes, and back.
use Rattle.std.specs.Prelude.{ℕ, zero, suc, ◌<◌, ◌^◌, List, [], ◌∷◌, ◌++◌, length, Result, Ok, IfSome}
use Rattle.std.specs.Int.{w32}
use Rattle.std.specs.List.{All, flat_map}
use Rattle.rs_topic.specs.Texts.{IsText}
use Rattle.rs_packet_property.specs.Forms.{four, counted, IsShort}
use Rattle.rs_packet_property.specs.Values.{PropertiesValue}
use Rattle.rs_packet_field.specs.Reading.{◌>>=◌, byte_at, number_at, binary_at}
use Rattle.rs_journal_record.specs.declared.fault.RecordFault.{RecordFault}
use Rattle.rs_journal_record.specs.Fields.{single, maybe, or_cut_off, text_at, maybe_at}

-- ---- as bytes

-- 3.3.2.3.7: a name and a value
abbrev pub pair_form : List ℕ × List ℕ → List ℕ
pair_form pair = counted pair.0 ++ counted pair.1

-- how many there are, and each of these
abbrev pub user_form : List (List ℕ × List ℕ) → List ℕ
user_form user = four (length user) ++ flat_map pair_form user

abbrev pub properties_form : PropertiesValue → List ℕ
properties_form p = maybe single p.format ++ maybe counted p.content_type ++ maybe counted p.response_topic ++ maybe counted p.correlation ++ user_form p.user

-- what their types promise
pub record HaveForms (p : PropertiesValue) : Type 0 where
  pub content_type_fits : IfSome p.content_type IsText
  pub response_topic_fits : IfSome p.response_topic IsText
  pub correlation_fits : IfSome p.correlation IsShort
  pub user_fits : All (λ pair. IsText pair.0 × IsText pair.1) p.user
  pub few : length p.user < 2 ^ 32

-- ---- back: a value, and the bytes after it

unfoldable pub pair_at : List ℕ → Result ((List ℕ × List ℕ) × List ℕ) RecordFault
pair_at bytes = text_at bytes >>= λ name. text_at name.1 >>= λ value. Ok ((name.0, value.0), value.1)

unfoldable pub pairs_at : ℕ → List ℕ → Result (List (List ℕ × List ℕ) × List ℕ) RecordFault
pairs_at zero bytes = Ok ([], bytes)
pairs_at (suc n) bytes = pair_at bytes >>= λ pair. pairs_at n pair.1 >>= λ more. Ok (pair.0 ∷ more.0, more.1)

unfoldable pub user_at : List ℕ → Result (List (List ℕ × List ℕ) × List ℕ) RecordFault
user_at bytes = or_cut_off (number_at w32 bytes) >>= λ n. pairs_at n.0 n.1

unfoldable pub properties_at : List ℕ → Result (PropertiesValue × List ℕ) RecordFault
properties_at bytes =
    maybe_at (λ b. or_cut_off (byte_at b)) bytes >>= λ f. maybe_at text_at f.1 >>= λ c. maybe_at text_at c.1 >>= λ r.
    maybe_at (λ b. or_cut_off (binary_at b)) r.1 >>= λ d. user_at d.1 >>= λ u.
    Ok (record { format = f.0; content_type = c.0; response_topic = r.0; correlation = d.0; user = u.0 }, u.1)
