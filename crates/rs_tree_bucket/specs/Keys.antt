-- Short levels as numbers.
use Rattle.std.specs.Prelude.{◌≡◌, ◌+◌, ◌*◌, ◌<◌, ◌≤◌, ℕ, zero, suc, List, [], ◌∷◌, ◌++◌, length}
use Rattle.std.specs.Ordering.{nat_cmp}
use Rattle.std.specs.declared.cmp.Ordering.{Ordering}
use Rattle.rs_tree_bucket.specs.declared.key.Key.{Key}

-- the bytes of a level, and zeros behind them
abbrev pub padded : ℕ → List ℕ → List ℕ
padded zero level = []
padded (suc n) [] = 0 ∷ padded n []
padded (suc n) (x ∷ xs) = x ∷ padded n xs

-- the bytes of a short level, zeros behind them, and its length
abbrev pub word : List ℕ → List ℕ
word level = padded 15 level ++ length level ∷ []

-- the number that the bytes spell, behind the digits of another one
abbrev pub spelt : ℕ → List ℕ → ℕ
spelt a [] = a
spelt a (x ∷ xs) = spelt (a * 256 + x) xs

abbrev pub AreBytes : List ℕ → Type 0
AreBytes [] = Unit {0}
AreBytes (x ∷ xs) = (x < 256) × AreBytes xs

-- the number spells the level's word
pub record IsKey (level : List ℕ) (key : Key) : Type 0 where
  pub short : length level ≤ 14
  pub bytes : AreBytes level
  pub number : key.number ≡ spelt 0 (word level)

abbrev pub key_cmp : Key → Key → Ordering
key_cmp k l = nat_cmp k.number l.number
