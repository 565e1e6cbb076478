-- Levels, faults, and what a text is as a topic name and as a topic filter.
use Rattle.std.specs.Prelude.{ℕ, Bool, true, false, ◌&&◌, ◌||◌, not, nat_lt, nat_eq, ◌==◌, if◌then◌else◌, List, [], ◌∷◌, length, Option, Some, None, Result, Ok, Err}
use Rattle.std.specs.List.{list_any, starts_with, slice_split}
use Rattle.std.specs.Str.{bytes_eq, is_utf8}
use Rattle.rs_topic.specs.declared.limits.TheConstants.{MAX_TEXT_SIZE, MAX_LEVELS}
use Rattle.rs_topic.specs.declared.text.TopicFault.{TopicFault}
use Rattle.rs_topic.specs.declared.text.TopicFault.TheVariants.{Empty, TooLong, NotUtf8, HasNul, HasWildcard, BadWildcard, TooManyLevels, Shared, NoMemory}

-- '/', '+', '#' and '$'
abbrev pub slash : ℕ
slash = 47

abbrev pub plus : ℕ
plus = 43

abbrev pub hash : ℕ
hash = 35

abbrev pub dollar : ℕ
dollar = 36

-- "$share/"
abbrev pub share : List ℕ
share = 36 ∷ 115 ∷ 104 ∷ 97 ∷ 114 ∷ 101 ∷ 47 ∷ []

-- 4.7.1.1: the texts between the slashes, at least one
abbrev pub levels : List ℕ → List (List ℕ)
levels text = slice_split (λ c. c == slash) text

abbrev pub has : ℕ → List ℕ → Bool
has c text = list_any (λ d. d == c) text

-- no wildcard character
abbrev pub is_plain : List ℕ → Bool
is_plain text = not (has plus text || has hash text)

abbrev pub is_end : List (List ℕ) → Bool
is_end [] = true
is_end (level ∷ more) = false

-- 4.7.1.2, 4.7.1.3: a level with a plus is a plus; a level with a hash is a hash, and the last
abbrev pub level_fits : List ℕ → Bool → Bool
level_fits level last = (not (has plus level) || bytes_eq level (plus ∷ []))
    && (not (has hash level) || (bytes_eq level (hash ∷ []) && last))

abbrev pub wildcards_fit : List (List ℕ) → Bool
wildcards_fit [] = true
wildcards_fit (level ∷ more) = level_fits level (is_end more) && wildcards_fit more

-- ---- faults

-- the bytes have this fault; NoMemory is not a fault of bytes
abbrev pub has_fault : List ℕ → TopicFault → Bool
has_fault bytes Empty = length bytes == 0
has_fault bytes TooLong = nat_lt MAX_TEXT_SIZE (length bytes)
has_fault bytes NotUtf8 = not (is_utf8 bytes)
has_fault bytes HasNul = has 0 bytes
has_fault bytes HasWildcard = has plus bytes || has hash bytes
has_fault bytes BadWildcard = not (wildcards_fit (levels bytes))
has_fault bytes TooManyLevels = nat_lt MAX_LEVELS (length (levels bytes))
has_fault bytes Shared = starts_with nat_eq bytes share
has_fault bytes NoMemory = false

-- the number of a fault
abbrev pub code_of : TopicFault → ℕ
code_of Empty = 1
code_of TooLong = 2
code_of NotUtf8 = 3
code_of HasNul = 4
code_of HasWildcard = 5
code_of BadWildcard = 6
code_of TooManyLevels = 7
code_of Shared = 8
code_of NoMemory = 9

-- the first fault of a list that the bytes have
abbrev pub first_fault : List TopicFault → List ℕ → Option TopicFault
first_fault [] bytes = None
first_fault (fault ∷ more) bytes = if has_fault bytes fault then Some fault else first_fault more bytes

-- the bytes, unless they have a fault
abbrev pub unless : Option TopicFault → List ℕ → Result (List ℕ) TopicFault
unless None bytes = Ok bytes
unless (Some fault) bytes = Err fault

-- ---- texts, names and filters, and the order in which their faults are tried

-- 1.5.4
abbrev pub text_faults : List TopicFault
text_faults = TooLong ∷ NotUtf8 ∷ HasNul ∷ []

-- 4.7.1, 4.7.3
abbrev pub name_faults : List TopicFault
name_faults = Empty ∷ TooLong ∷ NotUtf8 ∷ HasNul ∷ HasWildcard ∷ TooManyLevels ∷ []

-- 4.7.1, 4.7.3, 4.8.2
abbrev pub filter_faults : List TopicFault
filter_faults = Empty ∷ TooLong ∷ NotUtf8 ∷ HasNul ∷ Shared ∷ BadWildcard ∷ TooManyLevels ∷ []

-- those of them that a text can have
abbrev pub name_faults_of_text : List TopicFault
name_faults_of_text = Empty ∷ HasWildcard ∷ TooManyLevels ∷ []

abbrev pub filter_faults_of_text : List TopicFault
filter_faults_of_text = Empty ∷ Shared ∷ BadWildcard ∷ TooManyLevels ∷ []

-- what bytes are as a text, as a name and as a filter
unfoldable pub read_text : List ℕ → Result (List ℕ) TopicFault
read_text bytes = unless (first_fault text_faults bytes) bytes

unfoldable pub read_name : List ℕ → Result (List ℕ) TopicFault
read_name bytes = unless (first_fault name_faults bytes) bytes

unfoldable pub read_filter : List ℕ → Result (List ℕ) TopicFault
read_filter bytes = unless (first_fault filter_faults bytes) bytes

-- what a text is as a name and as a filter
unfoldable pub name_of : List ℕ → Result (List ℕ) TopicFault
name_of text = unless (first_fault name_faults_of_text text) text

unfoldable pub filter_of : List ℕ → Result (List ℕ) TopicFault
filter_of text = unless (first_fault filter_faults_of_text text) text
