-- A journal that is shortened, or whose log is copied, keeps what is retained.
use Rattle.std.proofs.Common.{◌≡◌, ◌⊎◌, inl, inr, ℕ, Bool, true, false, IsTrue, List, [], ◌∷◌, ◌++◌, map, refl, sym, ap, subst, ◌∙◌}
use Rattle.std.specs.Prelude.{Err, IfErr, Ok, OnOk, Result}
use Rattle.std.specs.List.{All}
use Rattle.rs_journal_record.specs.Records.{IsOperation}
use Rattle.rs_message.specs.Values.{MessageValue}
use Rattle.rs_message.specs.declared.entry.Entry.{Entry}
use Rattle.rs_message.specs.declared.entry.Operation.{Operation}
use Rattle.rs_message.specs.declared.entry.Operation.TheVariants.{Set}
use Rattle.rs_message.specs.declared.found.Found.{Found}
use Rattle.rs_store.specs.Contents.{found_of}
use Rattle.rs_store.specs.History.{AreRetained}
use Rattle.rs_journal.specs.declared.journal.Journal.{Journal}
use Rattle.rs_journal.specs.declared.pages.stream.PageStream.{PageStream}
use Rattle.rs_journal.specs.Frames.{frames}
use Rattle.rs_journal.specs.Journals.{AddsNoOutcome, Holds, IsClean, Keeps, Rests, may_leave}
use Rattle.rs_journal.specs.Retaining.{retained_after, sets}
use Rattle.rs_journal.specs.Streams as stream
use Rattle.rs_journal.specs.Writing.{IsRefused}
use Rattle.rs_journal.specs.declared.fault.WriteFault.{WriteFault}
use Rattle.rs_journal.proofs.OpenLemmas.{seen_is_left}
use Rattle.rs_journal.proofs.RetainedLemmas.{sets_retained}
use Rattle.rs_journal_writer.specs.State.{IsSure, Lists, MayStore, RetainSame, Stores, sets_for}
use Rattle.rs_journal_writer.proofs.Storing.{holds_rest, may_store_old}
use Rattle.sqlite_disk.specs.declared.Disk.{Ghosts}
use Rattle.sqlite_pager.specs.Pager.{image, state}
use Rattle.sqlite_wal.specs.Recovery.{Image}
use Rattle.sqlite_wal.proofs.LogLemmas.{SeenMayStay}
use Rattle.sqlite_wal.proofs.StateLemmas.{clean_of}

pub sure_case : {A : Type 0} (r : Result A WriteFault) (P Q X : Type 0) → OnOk r P → IfErr r (λ e. IsRefused e → Q) → (P → X) → (Q → X) → IsSure r → X
sure_case (Ok t) P Q X p q f h sure = f p
sure_case (Err e) P Q X p q f h sure = h (q sure)

-- ---- Sets of the messages

pub sets_more : (front : List Found) (found : Found) → sets_for front ++ Set found ∷ [] ≡ sets_for (front ++ found ∷ [])
sets_more [] found = refl
sets_more (x ∷ front) found = ap (λ (l : List Operation). Set x ∷ l) (sets_more front found)

own_sets : (retained : List (List ℕ × MessageValue)) → sets_for (map found_of retained) ≡ sets retained
own_sets [] = refl
own_sets (e ∷ retained) = ap (λ (l : List Operation). Set (found_of e) ∷ l) (own_sets retained)

-- Sets of all messages leave these
listed_same : (before : List Entry) (found : List Found) → (retained : List (List ℕ × MessageValue)) × AreRetained before retained × (found ≡ map found_of retained) → RetainSame (sets_for found) before
listed_same before found t =
    let own : sets_for found ≡ sets t.0 = ap (λ (l : List Found). sets_for l) t.2 ∙ own_sets t.0 in
    let leave : t.0 ≡ retained_after (sets_for found) = sets_retained t.0 t.1.rises ∙ ap (λ (l : List Operation). retained_after l) (sym own) in
    subst (λ (r : List (List ℕ × MessageValue)). AreRetained before r) leave t.1

on_clean : {P : Type 0} (b : Bool) → (IsTrue b → P) → ((IsTrue b → ⊥) → P) → P
on_clean true f h = f refl
on_clean false f h = h (λ t. absurd (cc (t)))

module _ {D : Type 0} {g : Ghosts D} where
  -- where a wrong answer was taken as true, nothing is said of what stands and is seen
  holds_any : (it : PageStream D g) (standing seen standing' seen' : List ℕ) → (stream.IsClean it → ⊥) → stream.Holds it standing seen → stream.Holds it standing' seen'
  unfolding stream.Stands stream.Holds
  holds_any it standing seen standing' seen' wrong holds = record {
    stands = record { committed = λ sound. absurd (wrong (clean_of (state it.pager) sound)); leaves = λ left may. absurd (wrong may.0) };
    shows = λ sound. absurd (wrong (clean_of (state it.pager) sound));
  }

  -- no wrong answer was taken before a call that leaves no more outcomes, if none was behind it
  was_clean : (it it' : Journal D g) → SeenMayStay g → AddsNoOutcome it it' → IsClean it' → IsClean it
  was_clean it it' stay adds clean = let from = adds (image it'.stream.pager) (seen_is_left it'.stream.pager stay clean) in from.1.0

  -- ---- calls that change nothing of what stands

  pub stores_kept : (it it' : Journal D g) (before : List Entry) → ((standing : List Operation) → Rests it standing → Rests it' standing) → Stores it before → Stores it' before
  stores_kept it it' before rests stores = record { standing = stores.standing; formed = stores.formed; rests = rests stores.standing stores.rests; same = stores.same }

  pub stores_back : (it it' : Journal D g) (before : List Entry) → ((standing seen : List Operation) → Holds it standing seen → Rests it' standing) → Stores it before → Stores it' before
  stores_back it it' before rests stores = stores_kept it it' before (λ standing at. rests standing standing (holds_rest it standing at)) stores

  pub stores_synced : (it it' : Journal D g) (before : List Entry) → ((standing seen : List Operation) → Holds it standing seen → Rests it' seen) → Stores it before → Stores it' before
  stores_synced it it' before rests stores = stores_kept it it' before (λ standing at. rests standing standing (holds_rest it standing at)) stores

  pub may_kept : (it : Journal D g) (before : List Entry) → Stores it before → MayStore it before []
  may_kept it before stores = may_store_old it before [] stores

  pub may_synced : (it it' : Journal D g) (before : List Entry) → ((standing seen : List Operation) → Holds it standing seen → (left : Image) → may_leave it' left → Keeps left standing ⊎ Keeps left seen)
      → Stores it before → MayStore it' before []
  may_synced it it' before crash stores = λ left may.
      let s = stores.standing in
      inl (elim (crash s s (holds_rest it s stores.rests) left may) [
        | inl a ↦ record { operations = s; formed = stores.formed; keeps = a; same = stores.same }
        | inr b ↦ record { operations = s; formed = stores.formed; keeps = b; same = stores.same }
      ])

  -- ---- a commit of Sets in the place of all operations

  module _ (stay : SeenMayStay g) (it it' it'' : Journal D g) (found : List Found) (before : List Entry) (adds : AddsNoOutcome it it')
      (pushed : (standing seen : List Operation) → Holds it standing seen → Holds it' standing (sets_for found)) where
    -- what is pushed, if no wrong answer was taken as true, else anything
    pub replaced : All IsOperation (sets_for found) → ((standing seen : List Operation) → Holds it' standing seen → Rests it'' seen) → Stores it before → Lists it before found → Stores it'' before
    replaced formed done stores lists =
        let s = stores.standing in
        let holds = pushed s s (holds_rest it s stores.rests) in
        on_clean (state it.stream.pager).is_clean
        (λ clean. record { standing = sets_for found; formed = formed; rests = done s (sets_for found) holds; same = listed_same before found (lists clean) })
        (λ wrong. record {
          standing = s;
          formed = stores.formed;
          rests = done s s (holds_any it'.stream (frames s) (frames (sets_for found)) (frames s) (frames s) (λ clean. wrong (was_clean it it' stay adds clean)) holds);
          same = stores.same;
        })

    pub may_replaced : All IsOperation (sets_for found) → ((standing seen : List Operation) → Holds it' standing seen → (left : Image) → may_leave it'' left → Keeps left standing ⊎ Keeps left seen) → Stores it before → Lists it before found
        → MayStore it'' before []
    may_replaced formed crash stores lists = λ left may.
        let s = stores.standing in
        let holds = pushed s s (holds_rest it s stores.rests) in
        inl (on_clean (state it.stream.pager).is_clean
        (λ clean. elim (crash s (sets_for found) holds left may) [
          | inl a ↦ record { operations = s; formed = stores.formed; keeps = a; same = stores.same }
          | inr b ↦ record { operations = sets_for found; formed = formed; keeps = b; same = listed_same before found (lists clean) }
        ])
        (λ wrong.
        let any = holds_any it'.stream (frames s) (frames (sets_for found)) (frames s) (frames s) (λ clean. wrong (was_clean it it' stay adds clean)) holds in
        elim (crash s s any left may) [
          | inl a ↦ record { operations = s; formed = stores.formed; keeps = a; same = stores.same }
          | inr b ↦ record { operations = s; formed = stores.formed; keeps = b; same = stores.same }
        ]))

  -- what was read of the journal is what it retains, if no wrong answer was taken as true
  pub read_lists : (it it' : Journal D g) (operations : List Operation) (found : List Found) (before : List Entry) → found ≡ map found_of (retained_after operations)
      → ((standing seen : List Operation) → Holds it standing seen → All IsOperation standing → IsClean it' → operations ≡ standing) → Stores it before → Lists it' before found
  read_lists it it' operations found before is same stores = λ clean.
      let s = stores.standing in
      let all : operations ≡ s = same s s (holds_rest it s stores.rests) stores.formed clean in
      (retained_after s, stores.same, is ∙ ap (λ (l : List Operation). map found_of (retained_after l)) all)
