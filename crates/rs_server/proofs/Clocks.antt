-- A clock that tells one moment.
use Rattle.std.proofs.Common.{◌≡◌, ℕ, suc, List, [], ◌∷◌, ◌++◌, ap, ◌∙◌}
use Rattle.std.specs.List.{All}
use Rattle.std.proofs.lemmas.List.Elements.{All-nil, All-cons}
use Rattle.rs_server.specs.Clock.{TellsAll, moment_at}

all_told : (now : ℕ) (f g : ℕ → ℕ) (ms : List ℕ) → ((k : ℕ) → f k ≡ now) → TellsAll f ms g → All (λ m. m ≡ now) ms
all_told now f g [] h p = All-nil (λ m. m ≡ now)
all_told now f g (m ∷ ms) h p = All-cons (λ m. m ≡ now) m ms (p.0 ∙ h 0) (all_told now (λ k. f (suc k)) g ms (λ k. h (suc k)) p.1)

pub one_moment : (now : ℕ) (f g : ℕ → ℕ) (rest ms : List ℕ) → ((k : ℕ) → f k ≡ moment_at now rest k) → rest ≡ [] → TellsAll f ms g → All (λ m. m ≡ now) ms
one_moment now f g rest ms h e p = all_told now f g ms (λ k. h k ∙ ap (λ (l : List ℕ). moment_at now l k) e) p

first_told : (now : ℕ) (f g : ℕ → ℕ) (ms ns : List ℕ) → ((k : ℕ) → f k ≡ now) → TellsAll f (ms ++ ns) g → All (λ m. m ≡ now) ms
first_told now f g [] ns h p = All-nil (λ m. m ≡ now)
first_told now f g (m ∷ ms) ns h p = All-cons (λ m. m ≡ now) m ms (p.0 ∙ h 0) (first_told now (λ k. f (suc k)) g ms ns (λ k. h (suc k)) p.1)

-- the first of the moments that were told
pub first_moments : (now : ℕ) (f g : ℕ → ℕ) (rest ms ns : List ℕ) → ((k : ℕ) → f k ≡ moment_at now rest k) → rest ≡ [] → TellsAll f (ms ++ ns) g → All (λ m. m ≡ now) ms
first_moments now f g rest ms ns h e p = first_told now f g ms ns (λ k. h k ∙ ap (λ (l : List ℕ). moment_at now l k) e) p
