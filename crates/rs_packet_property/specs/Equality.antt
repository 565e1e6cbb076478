-- When two messages have the same properties.
use Rattle.std.specs.Prelude.{ℕ, Bool, List, Option, nat_eq}
use Rattle.std.specs.Option.{option_eq}
use Rattle.std.specs.Ordering.{eq_of_both, on}
use Rattle.std.specs.Cmp.{IsEquivalence}
use Rattle.std.specs.Cmp.Lexicographic.{pointwise, options_equiv}
use Rattle.std.proofs.lemmas.Cmp.{nat_eq_equiv, nat_list_eq_equiv, lists_equiv, on_equiv, and_equiv}
use Rattle.rs_packet_property.specs.Values.{PropertiesValue}

abbrev pub text_eq : Option (List ℕ) → Option (List ℕ) → Bool
text_eq = option_eq (pointwise nat_eq)

abbrev pub pair_eq : List ℕ × List ℕ → List ℕ × List ℕ → Bool
pair_eq = eq_of_both (on (λ p. p.0) (pointwise nat_eq)) (on (λ p. p.1) (pointwise nat_eq))

-- field by field
abbrev pub properties_eq : PropertiesValue → PropertiesValue → Bool
properties_eq =
    eq_of_both (on (λ p. p.format) (option_eq nat_eq))
    (eq_of_both (on (λ p. p.content_type) text_eq)
    (eq_of_both (on (λ p. p.response_topic) text_eq)
    (eq_of_both (on (λ p. p.correlation) text_eq)
    (on (λ p. p.user) (pointwise pair_eq)))))

pub properties_eq_equiv : IsEquivalence properties_eq
properties_eq_equiv =
    and_equiv (on_equiv (λ p. p.format) (options_equiv nat_eq_equiv))
    (and_equiv (on_equiv (λ p. p.content_type) (options_equiv nat_list_eq_equiv))
    (and_equiv (on_equiv (λ p. p.response_topic) (options_equiv nat_list_eq_equiv))
    (and_equiv (on_equiv (λ p. p.correlation) (options_equiv nat_list_eq_equiv))
    (on_equiv (λ p. p.user) (lists_equiv (and_equiv (on_equiv (λ p. p.0) nat_list_eq_equiv) (on_equiv (λ p. p.1) nat_list_eq_equiv)))))))
