-- Texts, topic names, topic filters and their faults, in the words of the standard.
use Rattle.std.specs.Prelude.{◌≡◌, ℕ, ◌+◌, ◌<◌, ◌≤◌, false, IsTrue, ◌⊎◌, List, [], ◌∷◌, ◌++◌, length, Some, Result, Err, IsOk, MatchResult}
use Rattle.std.specs.List.{slice_get}
use Rattle.std.specs.Str.{IsUtf8}
use Rattle.rs_topic.specs.Texts.{IsText}
use Rattle.rs_topic.specs.Topics.{plus, hash, share, levels, has}
use Rattle.rs_topic.specs.declared.limits.TheConstants.{MAX_TEXT_SIZE, MAX_LEVELS}
use Rattle.rs_topic.specs.declared.text.TopicFault.{TopicFault}
use Rattle.rs_topic.specs.declared.text.TopicFault.TheVariants.{Empty, TooLong, NotUtf8, HasNul, HasWildcard, BadWildcard, TooManyLevels, Shared, NoMemory}

-- 4.7.3, 4.7.1.1: a text of one byte or more, without a wildcard character
pub record IsTopicName (name : List ℕ) : Type 0 where
  pub is_text : IsText name
  pub some : 0 < length name
  pub no_plus : has plus name ≡ false
  pub no_hash : has hash name ≡ false
  pub few_levels : length (levels name) ≤ MAX_LEVELS

-- 4.7.1.2, 4.7.1.3: a level that contains a plus is a plus; one that contains a hash is a hash, and the last
pub record WildcardsFill (parts : List (List ℕ)) : Type 0 where
  pub plus_alone : (i : ℕ) (level : List ℕ) → slice_get parts i ≡ Some level → IsTrue (has plus level) → level ≡ plus ∷ []
  pub hash_alone : (i : ℕ) (level : List ℕ) → slice_get parts i ≡ Some level → IsTrue (has hash level) → level ≡ hash ∷ []
  pub hash_last : (i : ℕ) (level : List ℕ) → slice_get parts i ≡ Some level → IsTrue (has hash level) → i + 1 ≡ length parts

-- 4.8.2: a shared subscription
abbrev pub IsShared : List ℕ → Type 0
IsShared filter = (rest : List ℕ) × (filter ≡ share ++ rest)

-- 4.7.1, 4.7.3: a text of one byte or more whose wildcards fill their levels
pub record IsTopicFilter (filter : List ℕ) : Type 0 where
  pub is_text : IsText filter
  pub some : 0 < length filter
  pub wildcards : WildcardsFill (levels filter)
  pub few_levels : length (levels filter) ≤ MAX_LEVELS
  pub not_shared : ¬ IsShared filter

-- the bytes have this fault; NoMemory is not a fault of bytes
abbrev pub Faulty : List ℕ → TopicFault → Type 0
Faulty bytes Empty = length bytes ≡ 0
Faulty bytes TooLong = MAX_TEXT_SIZE < length bytes
Faulty bytes NotUtf8 = ¬ IsUtf8 bytes
Faulty bytes HasNul = IsTrue (has 0 bytes)
Faulty bytes HasWildcard = IsTrue (has plus bytes) ⊎ IsTrue (has hash bytes)
Faulty bytes BadWildcard = ¬ WildcardsFill (levels bytes)
Faulty bytes TooManyLevels = MAX_LEVELS < length (levels bytes)
Faulty bytes Shared = IsShared bytes
Faulty bytes NoMemory = ⊥

-- x is the first of a list of which P holds
pub data IsFirst {X : Type 0} (P : X → Type 0) : List X → X → Type 0 where
  here : {x : X} {xs : List X} → P x → IsFirst P (x ∷ xs) x
  later : {x y : X} {xs : List X} → ¬ P x → IsFirst P xs y → IsFirst P (x ∷ xs) y

-- what a text is judged to be: Ok of itself for what is wanted, else its first fault of a list
abbrev pub Judges : (List ℕ → Type 0) → List TopicFault → List ℕ → Result (List ℕ) TopicFault → Type 0
Judges Is faults text result = MatchResult result (λ got. (got ≡ text) × Is text)
    (λ fault. (¬ Is text) × IsFirst (Faulty text) faults fault)

-- the same if a copy is made, for which memory may be refused
abbrev pub Reads : (List ℕ → Type 0) → List TopicFault → List ℕ → Result (List ℕ) TopicFault → Type 0
Reads Is faults bytes result = MatchResult result (λ got. (got ≡ bytes) × Is bytes)
    (λ fault. ((fault ≡ NoMemory) × Is bytes) ⊎ ((¬ Is bytes) × IsFirst (Faulty bytes) faults fault))

-- the answer that is due, or NoMemory if that is Ok
abbrev pub IsReadAs : Result (List ℕ) TopicFault → Result (List ℕ) TopicFault → Type 0
IsReadAs due result = (result ≡ due) ⊎ (IsOk due × (result ≡ Err NoMemory))
