-- Streams of pages: a page more, a new beginning, and one reading.
use Rattle.std.proofs.Common.{◌≡◌, inl, inr, ℕ, zero, suc, ◌+◌, ◌-◌, ◌<◌, ◌≤◌, ◌==◌, List, [], ◌++◌, length, Option, Some, None, is_some, refl, sym, ap, subst, ◌∙◌, arith, add-one, append_assoc, lit<}
use Rattle.std.proofs.lemmas.Bool.{cases_lt, cases_eq, cond-false, ne_eqb}
use Rattle.std.proofs.lemmas.List.{append-nil}
use Rattle.sqlite_wal.specs.Recovery.{Pages, only_page}
use Rattle.sqlite_wal.proofs.ChangeLemmas.{HaveCount}
use Rattle.rs_journal.specs.Pages.{AreNumbered, HasHead, HasStream, IsHead, PutsPage, joined, head_form, number_in, number_of, part_in, part_of}
use Rattle.rs_journal.proofs.FormLemmas.{head_long, head_says}

pub some_is : (x y : List ℕ) (r : Option (List ℕ)) → r ≡ Some x → r ≡ Some y → x ≡ y
some_is x y r a b = cc

-- a page that has a number is there
pub page_of_number : (page : Option (List ℕ)) (number : ℕ) → number_in page ≡ Some number → (bytes : List ℕ) × (page ≡ Some bytes) × (number_of bytes ≡ number)
page_of_number (Some bytes) number is = (bytes, refl, cc)
page_of_number None number is = cc

pub joined_same : (pages new : Pages) (n : ℕ) → ((j : ℕ) → j < n → new (j + 2) ≡ pages (j + 2)) → joined new n ≡ joined pages n
joined_same pages new zero same = refl
joined_same pages new (suc n) same =
    ap (λ (l : List ℕ). l ++ part_in (new (n + 2))) (joined_same pages new n (λ j lt. same j (omega (arith, lt))))
    ∙ ap (λ (page : Option (List ℕ)). joined pages n ++ part_in page) (same n (omega arith))

pub joined_more : (pages : Pages) (n : ℕ) → joined pages (n + 1) ≡ joined pages n ++ part_in (pages (n + 2))
joined_more pages n = ap (joined pages) (add-one n)

-- the parts of fewer pages are at the front
pub joined_behind : (pages : Pages) (n k : ℕ) → (rest : List ℕ) × (joined pages (n + k) ≡ joined pages n ++ rest)
joined_behind pages n zero = let same : n + 0 ≡ n = omega arith in ([], ap (joined pages) same ∙ sym (append-nil (joined pages n)))
joined_behind pages n (suc k) =
    let more = joined_behind pages n k in
    let same : n + suc k ≡ suc (n + k) = omega arith in
    let last : List ℕ = part_in (pages (n + k + 2)) in
    (more.0 ++ last, ap (joined pages) same ∙ ap (λ (l : List ℕ). l ++ last) more.1 ∙ append_assoc (joined pages n) more.0 last)

pub grows : (pages new : Pages) (first count : ℕ) (stream page : List ℕ) → HasStream pages first count stream → PutsPage pages (count + 2) page new
    → number_of page ≡ first + count → HasStream new first (count + 1) (stream ++ part_of page)
grows pages new first count stream page has puts numbered = record {
  head = record { bytes = has.head.bytes; there = puts.others 1 (λ same. absurd (omega (arith, same))) ∙ has.head.there; sized = has.head.sized; says = has.head.says };
  numbered = record {
    each = λ j lt. elim (cases_eq j count) [
      | inl here ↦
          ap (λ (k : ℕ). number_in (new (k + 2))) here ∙ ap number_in puts.here ∙ ap (λ (k : ℕ). Some k) (numbered ∙ ap (λ (k : ℕ). first + k) (sym here))
      | inr apart ↦
          let less : j < count = omega (arith, apart, lt) in
          ap number_in (puts.others (j + 2) (λ same. apart (omega (arith, same)))) ∙ has.numbered.each j less
    ];
    stale = λ j other le there.
        has.numbered.stale j other (omega (arith, le)) (sym (puts.others (j + 2) (λ same. absurd (omega (arith, same, le)))) ∙ there);
  };
  joins =
      joined_more new count ∙ ap (λ (l : List ℕ). l ++ part_in (new (count + 2))) (joined_same pages new count (λ j lt. puts.others (j + 2) (λ same. absurd (omega (arith, same, lt)))) ∙ has.joins)
      ∙ ap (λ (o : Option (List ℕ)). stream ++ part_in o) puts.here;
}

-- a page 1 that begins the stream anew behind the numbers so far: none of the pages counts any more
pub begins_anew : (pages new : Pages) (first count : ℕ) (stream head : List ℕ) → HasStream pages first count stream → PutsPage pages 1 head new
    → length head ≡ 1024 → IsHead head (first + count) → HasStream new (first + count) 0 []
begins_anew pages new first count stream head has puts long says = record {
  head = record { bytes = head; there = puts.here; sized = long; says = says };
  numbered = record {
    each = λ j lt. absurd (omega (arith, lt));
    stale = λ j page le there.
        let was : pages (j + 2) ≡ Some page = sym (puts.others (j + 2) (λ same. absurd (omega (arith, same)))) ∙ there in
        elim (cases_lt j count) [
          | inl lt ↦
              let old = page_of_number (pages (j + 2)) (first + j) (has.numbered.each j lt) in
              let number : number_of page ≡ first + j = ap number_of (some_is page old.0 (pages (j + 2)) was old.1) ∙ old.2 in
              omega (arith, number, lt)
          | inr ge ↦ let low = has.numbered.stale j page ge was in omega (arith, low)
        ];
  };
  joins = refl;
}

-- no count is larger
no_larger : (pages : Pages) (first m n : ℕ) → AreNumbered pages first m → AreNumbered pages first n → m ≤ n
no_larger pages first m n a b = elim (cases_lt n m) [
  | inl lt ↦
      let was = page_of_number (pages (n + 2)) (first + n) (a.each n lt) in
      let low = b.stale n was.0 (omega arith) was.1 in
      absurd (omega (arith, low, was.2))
  | inr le ↦ le
]

pub one_count : (pages : Pages) (first m n : ℕ) → AreNumbered pages first m → AreNumbered pages first n → m ≡ n
one_count pages first m n a b = let x = no_larger pages first m n a b in let y = no_larger pages first n m b a in omega (arith, x, y)

pub one_first : (page : Option (List ℕ)) (m n : ℕ) → HasHead page m → HasHead page n → m ≡ n
one_first page m n a b =
    let same = some_is a.bytes b.bytes page a.there b.there in
    sym (subst (λ (bytes : List ℕ). IsHead bytes m) same a.says).begins ∙ b.says.begins

-- pages have one stream at most
pub one_stream : (pages : Pages) (first count first' count' : ℕ) (stream stream' : List ℕ) → HasStream pages first count stream → HasStream pages first' count' stream' → stream ≡ stream'
one_stream pages first count first' count' stream stream' a b =
    let begins = one_first (pages 1) first first' a.head b.head in
    let long = one_count pages first' count count' (subst (λ (n : ℕ). AreNumbered pages n count) begins a.numbered) b.numbered in
    sym a.joins ∙ ap (joined pages) long ∙ b.joins

-- the pages of the stream are there
pub counted : (pages : Pages) (first count n : ℕ) (stream : List ℕ) → HasStream pages first count stream → HaveCount pages n → count + 1 ≤ n
counted pages first count n stream has have = elim (cases_lt 0 count) [
  | inl some ↦
      let last = page_of_number (pages (count - 1 + 2)) (first + (count - 1)) (has.numbered.each (count - 1) (omega (arith, some))) in
      let within = (have (count - 1 + 2)).0 (ap is_some last.1) in
      omega (arith, within.1, some)
  | inr none ↦ let within = (have 1).0 (ap is_some has.head.there) in omega (arith, within.1, none)
]

none_is : {page : List ℕ} → None ≡ Some page → ⊥
none_is same = cc

pub fresh : HasStream (only_page (head_form 1)) 1 0 []
fresh = record {
  head = record { bytes = head_form 1; there = refl; sized = head_long 1; says = head_says 1 (lit< tt) };
  numbered = record { each = λ j lt. absurd (omega (arith, lt)); stale = λ j page le there. absurd (none_is (sym (cond-false (j + 2 == 1) (Some (head_form 1)) None (ne_eqb (j + 2) 1 (omega arith))) ∙ there)) };
  joins = refl;
}
