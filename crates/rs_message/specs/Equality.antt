-- When two messages are the same, and two topics with their messages.
use Rattle.std.specs.Prelude.{Bool, nat_eq}
use Rattle.std.specs.Option.{option_eq}
use Rattle.std.specs.Ordering.{eq_of_both, on}
use Rattle.std.specs.Cmp.{IsEquivalence}
use Rattle.std.specs.Cmp.Lexicographic.{pointwise, options_equiv}
use Rattle.std.proofs.lemmas.Cmp.{nat_eq_equiv, nat_list_eq_equiv, on_equiv, and_equiv}
use Rattle.rs_message.specs.Sizes.{level}
use Rattle.rs_packet_property.specs.Equality.{properties_eq, properties_eq_equiv}
use Rattle.rs_message.specs.Values.{FoundValue, MessageValue}

-- field by field
abbrev pub message_eq : MessageValue → MessageValue → Bool
message_eq =
    eq_of_both (on (λ m. m.payload) (pointwise nat_eq))
    (eq_of_both (on (λ m. level m.qos) nat_eq)
    (eq_of_both (on (λ m. m.received) nat_eq)
    (eq_of_both (on (λ m. m.expiry) (option_eq nat_eq))
    (on (λ m. m.properties) properties_eq))))

pub message_eq_equiv : IsEquivalence message_eq
message_eq_equiv =
    and_equiv (on_equiv (λ m. m.payload) nat_list_eq_equiv)
    (and_equiv (on_equiv (λ m. level m.qos) nat_eq_equiv)
    (and_equiv (on_equiv (λ m. m.received) nat_eq_equiv)
    (and_equiv (on_equiv (λ m. m.expiry) (options_equiv nat_eq_equiv))
    (on_equiv (λ m. m.properties) properties_eq_equiv))))

-- topic and message
abbrev pub found_eq : FoundValue → FoundValue → Bool
found_eq = eq_of_both (on (λ f. f.topic) (pointwise nat_eq)) (on (λ f. f.message) message_eq)

pub found_eq_equiv : IsEquivalence found_eq
found_eq_equiv = and_equiv (on_equiv (λ f. f.topic) nat_list_eq_equiv) (on_equiv (λ f. f.message) message_eq_equiv)
