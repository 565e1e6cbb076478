-- What a journal keeps, and what is retained after it.
use Rattle.std.proofs.Common.{◌≡◌, ◌⊎◌, inl, inr, ℕ, ◌+◌, ◌<◌, List, [], ◌∷◌, ◌++◌, get_or, length, map, take, refl, sym, ap, subst, ◌∙◌, append_assoc, fold}
use Rattle.std.specs.List.{All}
use Rattle.std.proofs.lemmas.List.{append-nil, map-append, take_more}
use Rattle.std.proofs.lemmas.List.Elements.{All-append, All-push}
use Rattle.std.proofs.lemmas.List.Sums.{fold-append}
use Rattle.rs_journal_record.specs.Records.{IsOperation}
use Rattle.rs_message.specs.Values.{MessageValue}
use Rattle.rs_message.specs.declared.entry.Entry.{Entry}
use Rattle.rs_message.specs.declared.entry.Operation.{Operation}
use Rattle.rs_message.specs.Messages.{set_of}
use Rattle.rs_message.specs.declared.found.Found.{Found}
use Rattle.rs_store.specs.Contents.{after, found_of}
use Rattle.rs_store.specs.History.{AreRetained}
use Rattle.rs_store.proofs.Standing.{retained_more}
use Rattle.rs_version.specs.First.{first_of, sets_behind}
use Rattle.rs_journal.specs.declared.journal.Journal.{Journal}
use Rattle.rs_journal.specs.Frames.{frames}
use Rattle.rs_journal.specs.Journals.{Holds, Keeps, Rests, may_leave}
use Rattle.rs_journal.specs.Restarting.{operations_of}
use Rattle.rs_journal.specs.Retaining.{retained_after, sets}
use Rattle.rs_journal.proofs.RestartLemmas.{operations_retain}
use Rattle.rs_journal.proofs.StandsLemmas.{holds_idle, leaves_of, stands_if_rests}
use Rattle.rs_journal_writer.specs.State.{MayStore, RetainSame, Stores}
use Rattle.sqlite_disk.specs.declared.Disk.{Ghosts}
use Rattle.sqlite_wal.specs.Recovery.{Image}

-- ---- what was pushed

pub pushed_more : (seen : List Operation) (entries : List Entry) (i : ℕ) (e : Entry) → i < length entries → e ≡ get_or entries i e
    → (seen ++ operations_of (take i entries)) ++ e.operation ∷ [] ≡ seen ++ operations_of (take (i + 1) entries)
pushed_more seen entries i e there is =
    let op : Entry → Operation = λ (x : Entry). x.operation in
    let next : take (i + 1) entries ≡ take i entries ++ e ∷ [] = take_more entries i e there ∙ ap (λ (x : Entry). take i entries ++ x ∷ []) (sym is) in
    append_assoc seen (operations_of (take i entries)) (e.operation ∷ [])
    ∙ ap (λ (l : List Operation). seen ++ l) (sym (map-append op (take i entries) (e ∷ [])) ∙ sym (ap (λ (l : List Entry). operations_of l) next))

pub formed_more : (entries : List Entry) (i : ℕ) (e : Entry) → i < length entries → e ≡ get_or entries i e → All IsOperation (operations_of (take i entries)) → IsOperation e.operation
    → All IsOperation (operations_of (take (i + 1) entries))
formed_more entries i e there is formed fits =
    subst (λ (l : List Operation). All IsOperation l) (pushed_more [] entries i e there is) (All-push IsOperation (operations_of (take i entries)) e.operation formed fits)

-- ---- what is retained

retain_from : (front rest : List Entry) (retained : List (List ℕ × MessageValue)) → AreRetained front retained → AreRetained (front ++ rest) (fold after retained (operations_of rest))
retain_from front [] retained are = subst (λ (l : List Entry). AreRetained l retained) (sym (append-nil front)) are
retain_from front (e ∷ rest) retained are =
    subst (λ (l : List Entry). AreRetained l (fold after (after retained e.operation) (operations_of rest))) (append_assoc front (e ∷ []) rest)
    (retain_from (front ++ e ∷ []) rest (after retained e.operation) (retained_more front e retained are))

pub same_more : (standing : List Operation) (before more : List Entry) → RetainSame standing before → RetainSame (standing ++ operations_of more) (before ++ more)
same_more standing before more same =
    subst (λ (r : List (List ℕ × MessageValue)). AreRetained (before ++ more) r) (sym (fold-append after [] standing (operations_of more)))
    (retain_from before more (retained_after standing) same)

-- ---- what a store begins with

own_operations : (serial : ℕ) (retained : List (List ℕ × MessageValue)) → operations_of (sets_behind serial (map found_of retained)) ≡ sets retained
own_operations serial [] = refl
own_operations serial (e ∷ retained) = ap (λ (l : List Operation). set_of e.0 e.1 ∷ l) (own_operations (serial + 1) retained)

pub first_same : (operations : List Operation) (retained : List (List ℕ × MessageValue)) (given : List Found) → given ≡ map found_of retained → retained ≡ retained_after operations → retained ≡ retained_after (sets retained)
    → RetainSame operations (first_of given)
first_same operations retained given is after leave =
    let all : retained_after (operations_of (first_of given)) ≡ retained_after operations =
    sym (sym after ∙ (leave ∙ (ap (λ (l : List Operation). retained_after l) (sym (own_operations 0 retained)) ∙ ap (λ (l : List Found). retained_after (operations_of (first_of l))) (sym is)))) in
    subst (λ (r : List (List ℕ × MessageValue)). AreRetained (first_of given) r) all (operations_retain (first_of given))

module _ {D : Type 0} {g : Ghosts D} where
  pub holds_rest : (it : Journal D g) (standing : List Operation) → Rests it standing → Holds it standing standing
  holds_rest it standing rests = holds_idle it.stream (frames standing) rests

  pub leaves_rest : (it : Journal D g) (standing : List Operation) → Rests it standing → (left : Image) → may_leave it left → Keeps left standing
  leaves_rest it standing rests = leaves_of it.stream (frames standing) (stands_if_rests it.stream (frames standing) rests)

  pub stores_more : (it : Journal D g) (standing : List Operation) (before more : List Entry) → All IsOperation standing → All IsOperation (operations_of more) → RetainSame standing before → Rests it (standing ++ operations_of more) → Stores it (before ++ more)
  stores_more it standing before more formed formed' same rests = record {
    standing = standing ++ operations_of more;
    formed = All-append IsOperation standing (operations_of more) formed formed';
    rests = rests;
    same = same_more standing before more same;
  }

  pub may_store : (it : Journal D g) (standing : List Operation) (before more : List Entry) → All IsOperation standing → All IsOperation (operations_of more) → RetainSame standing before
      → ((left : Image) → may_leave it left → Keeps left standing ⊎ Keeps left (standing ++ operations_of more)) → MayStore it before more
  may_store it standing before more formed formed' same leaves left may = elim (leaves left may) [
    | inl old ↦ inl (record { operations = standing; formed = formed; keeps = old; same = same })
    | inr new ↦ inr (record {
      operations = standing ++ operations_of more;
      formed = All-append IsOperation standing (operations_of more) formed formed';
      keeps = new;
      same = same_more standing before more same;
    })
  ]

  pub may_store_old : (it : Journal D g) (before more : List Entry) → Stores it before → MayStore it before more
  may_store_old it before more stores left may = inl (record { operations = stores.standing; formed = stores.formed; keeps = leaves_rest it stores.standing stores.rests left may; same = stores.same })
