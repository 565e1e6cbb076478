-- How the definitions are related.
use Rattle.std.specs.Prelude.{◌≡◌, ◌↔◌, ℕ, ◌<◌, false, IsTrue, List, length, All}
use Rattle.std.specs.List.{join_with_byte}
use Rattle.std.specs.declared.cmp.Ordering.TheVariants.{Less}
use Rattle.rs_topic.specs.Texts.{IsText}
use Rattle.rs_topic.specs.Topics.{slash, has, levels, name_faults_of_text, filter_faults_of_text, name_of, filter_of}
use Rattle.rs_topic.specs.Matching.{Matches, matches}
use Rattle.rs_topic.specs.Meanings.{IsTopicName, IsTopicFilter, Judges}
use Rattle.rs_topic.specs.Order.{topic_cmp, IsReplayedBefore}

-- 4.7.1.1: one or more texts without a slash which, joined by slashes, give the text
pub record AreLevels (text : List ℕ) (parts : List (List ℕ)) : Type 0 where
  pub some : 0 < length parts
  pub no_slash : All (λ level. has slash level ≡ false) parts
  pub whole : join_with_byte slash parts ≡ text

-- the levels are such a list, and the only one
abbrev pub AreTheLevels : Type 0
AreTheLevels = (text : List ℕ) → AreLevels text (levels text) × ((parts : List (List ℕ)) → AreLevels text parts → parts ≡ levels text)

abbrev pub IsTheOrderOfReplay : Type 0
IsTheOrderOfReplay = (a b : List ℕ) → (topic_cmp a b ≡ Less) ↔ IsReplayedBefore a b

-- the test is true exactly if the relation holds
abbrev pub TestsMatches : Type 0
TestsMatches = (filter name : List ℕ) → IsTrue (matches filter name) ↔ Matches filter name

-- what a text is judged to be
abbrev pub JudgesNames : Type 0
JudgesNames = (text : List ℕ) → IsText text → Judges IsTopicName name_faults_of_text text (name_of text)

abbrev pub JudgesFilters : Type 0
JudgesFilters = (text : List ℕ) → IsText text → Judges IsTopicFilter filter_faults_of_text text (filter_of text)
