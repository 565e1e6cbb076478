-- A chain that is cut at one of its levels.
use Rattle.std.proofs.Common.{◌≡◌, ℕ, ◌+◌, ◌-◌, ◌<◌, ◌≤◌, ◌⊎◌, inl, inr, List, ◌∷◌, ◌++◌, length, drop, sym, ap, ◌∙◌, arith, length-drop}
use Rattle.std.proofs.lemmas.Bool.{cases_lt}
use Rattle.std.proofs.lemmas.List.{drop-drop}
use Rattle.rs_topic.specs.Topics.{levels}
use Rattle.rs_topic.specs.Rests.{levels_from}
use Rattle.rs_topic.proofs.Rests.{from_within, no_more}

-- the levels from a byte on, as a chain
pub rest_of : (text : List ℕ) (at : ℕ) → levels_from 1 (drop at text) ≡ levels_from (at + 1) text
rest_of text at = by (cases_lt at (length text))
  where
    by : (at < length text) ⊎ (length text ≤ at) → levels_from 1 (drop at text) ≡ levels_from (at + 1) text
    by (inl less) = from_within (drop at text) 1 (omega (arith, length-drop at text)) ∙ (ap levels (drop-drop 1 at text) ∙ sym (from_within text (at + 1) (omega (arith, less))))
    by (inr all) = no_more (drop at text) 1 (omega (arith, length-drop at text)) ∙ sym (no_more text (at + 1) (omega (arith, all)))

-- a chain that is split at one of its levels
pub cut_levels : (chain upper rest level : List ℕ) (at next : ℕ) → levels_from 1 chain ≡ levels_from 1 upper ++ levels_from at chain → levels_from at chain ≡ level ∷ levels_from next chain → rest ≡ drop (next - 1) chain → at < next
    → levels_from 1 chain ≡ levels_from 1 upper ++ level ∷ levels_from 1 rest
cut_levels chain upper rest level at next h more is less =
    let back : levels_from 1 rest ≡ levels_from next chain = ap (levels_from 1) is ∙ (rest_of chain (next - 1) ∙ ap (λ (n : ℕ). levels_from n chain) (let e : next - 1 + 1 ≡ next = omega (arith, less) in e)) in
    h ∙ ap (λ (l : List (List ℕ)). levels_from 1 upper ++ l) (more ∙ ap (λ (l : List (List ℕ)). level ∷ l) (sym back))
