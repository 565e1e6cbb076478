-- The pages of a stream: the first says what the files are and where the stream begins, and each other has a number and a part of it.
use Rattle.std.specs.Prelude.{◌≡◌, ◌≢◌, ℕ, zero, suc, ◌+◌, ◌-◌, ◌<◌, ◌≤◌, List, [], ◌∷◌, ◌++◌, length, take, drop, slice_index, replicate, Option, Some, None}
use Rattle.std.specs.Int.{w16, w64, to_be_bytes, from_be_bytes}
use Rattle.sqlite_wal.specs.Recovery.{Pages}

-- how many bytes a page has, and how many of them the stream can have
abbrev pub page_size : ℕ
page_size = 1024

abbrev pub part_size : ℕ
part_size = 1014

-- ---- page 1

-- "rstored"
abbrev pub name : List ℕ
name = 0x72 ∷ 0x73 ∷ 0x74 ∷ 0x6f ∷ 0x72 ∷ 0x65 ∷ 0x64 ∷ []

-- the name, the version of the form, and the number of the first page of the stream, twice
pub record IsHead (page : List ℕ) (first : ℕ) : Type 0 where
  pub named : take 7 page ≡ name
  pub version : slice_index page 7 ≡ 1
  pub begins : from_be_bytes w64 (take 8 (drop 8 page)) ≡ first
  pub again : from_be_bytes w64 (take 8 (drop 16 page)) ≡ first

unfoldable pub head_form : ℕ → List ℕ
head_form first = name ++ (1 ∷ (to_be_bytes w64 first ++ (to_be_bytes w64 first ++ replicate (page_size - 24) 0)))

-- ---- the pages behind it

abbrev pub number_of : List ℕ → ℕ
number_of page = from_be_bytes w64 (take 8 page)

-- what the page has of the stream
abbrev pub part_of : List ℕ → List ℕ
part_of page = take (from_be_bytes w16 (take 2 (drop 8 page))) (drop 10 page)

unfoldable pub page_form : ℕ → List ℕ → List ℕ
page_form number part = to_be_bytes w64 number ++ (to_be_bytes w16 (length part) ++ (part ++ replicate (page_size - (length part + 10)) 0))

abbrev pub number_in : Option (List ℕ) → Option ℕ
number_in (Some page) = Some (number_of page)
number_in None = None

abbrev pub part_in : Option (List ℕ) → List ℕ
part_in (Some page) = part_of page
part_in None = []

-- ---- a stream

pub record HasHead (page : Option (List ℕ)) (first : ℕ) : Type 0 where
  pub bytes : List ℕ
  pub there : page ≡ Some bytes
  pub sized : length bytes ≡ page_size
  pub says : IsHead bytes first

-- Behind page 1 so many pages have rising numbers from the first one on, and each page behind them has a lower number than that: it is
-- left over from an earlier stream.
pub record AreNumbered (pages : Pages) (first count : ℕ) : Type 0 where
  pub each : (j : ℕ) → j < count → number_in (pages (j + 2)) ≡ Some (first + j)
  pub stale : (j : ℕ) (page : List ℕ) → count ≤ j → pages (j + 2) ≡ Some page → number_of page < first

-- the parts of so many pages behind page 1, joined
abbrev pub joined : Pages → ℕ → List ℕ
joined pages zero = []
joined pages (suc n) = joined pages n ++ part_in (pages (n + 2))

-- the pages have this stream, in so many pages that are numbered from the first one on
pub record HasStream (pages : Pages) (first count : ℕ) (stream : List ℕ) : Type 0 where
  pub head : HasHead (pages 1) first
  pub numbered : AreNumbered pages first count
  pub joins : joined pages count ≡ stream

-- the pages with this one at this place, put there or added
pub record PutsPage (old : Pages) (at : ℕ) (page : List ℕ) (new : Pages) : Type 0 where
  pub here : new at ≡ Some page
  pub others : (k : ℕ) → k ≢ at → new k ≡ old k
