-- What the writer has published and what it holds.
use Rattle.std.specs.Prelude.{Bool, true, false, ℕ, ◌≡◌, ◌≢◌, ◌≤◌, ◌++◌, ◌∷◌, ◌⊎◌, [], List, Option, Some, None, length}
use mathlib.Core.List.{IsPrefix}
use Rattle.logbook.specs.Pages.{Book}
use Rattle.rs_message.specs.declared.entry.Entry.{Entry}
use Rattle.rs_message.specs.declared.entry.Operation.{Operation}
use Rattle.rs_message.specs.declared.entry.Operation.TheVariants.{Clear, Set, Sweep}
use Rattle.rs_store.specs.declared.content.Content.{Content}
use Rattle.rs_store.specs.declared.fault.Refusal.{Refusal}
use Rattle.rs_store.specs.declared.fault.Refusal.TheVariants as refusal
use Rattle.rs_store.specs.Bytes.{retained_bytes}
use Rattle.rs_store.specs.Contents.{followed}
use Rattle.rs_store.specs.Expiring.{NoneExpiredBefore}
use Rattle.rs_store.specs.History.{IsLegal, MayNotCome, NeedsSweepAfter, cleaned, extended, sweep_after}
use Rattle.rs_version.specs.declared.catalogue_copy.CatalogueCopy.{CatalogueCopy}
use Rattle.rs_version.specs.declared.catalogue_copy.CopyStep.{CopyStep}
use Rattle.rs_version.specs.declared.copies.Copies.{Copies}
use Rattle.rs_version.specs.declared.fault.PutFault.{PutFault}
use Rattle.rs_version.specs.declared.fault.PutFault.TheVariants as fault
use Rattle.rs_version.specs.Catalogues.{content_of}
use Rattle.rs_version.specs.VersionRule.{IsSound, Follows}
use Rattle.rs_version.specs.Copies.{listed, shown, steps_of}

-- what is published, and what is kept behind it and not published yet
pub record Written : Type 0 where
  pub published : List Entry
  pub held : List Entry

-- the kept list: the published list, followed by what is held
abbrev pub kept_of : Written → List Entry
kept_of w = w.published ++ w.held

-- all of it published
abbrev pub released : Written → Written
released w = record { published = kept_of w; held = [] }

-- some of what was held is published, from the first on, and the rest is held still
abbrev pub IsReleasedInPart : Written → Written → Type 0
IsReleasedInPart w w' = (kept_of w' ≡ kept_of w) × IsPrefix w.published w'.published

-- the steps that are not published are those of the held entry
abbrev pub StepsFor : CatalogueCopy → Option Entry → List CopyStep → Type 0
StepsFor x None ss = ss ≡ []
StepsFor x (Some e) ss = (s : CopyStep) × (ss ≡ s ∷ []) × (s.entry ≡ e) × Follows x s

-- the content after the kept list, by that after the published list
abbrev pub kept_content : Content → Option Entry → Content
kept_content c None = c
kept_content c (Some e) = followed c e

-- what holds of a writer's parts: the two copies, the kept list, the calm moment and the held entry. What is kept counts no more bytes
-- than the writer may keep
pub record IsWriting (history : Book) (limit memory : ℕ) (copies : Copies) (list : List Entry) (calm : ℕ) (held : Option Entry) : Type 0 where
  pub history_is : (shown copies).prefix.history ≡ history
  pub limit_is : (content_of (shown copies).catalogue).limit ≡ limit
  pub sound : IsSound (shown copies)
  pub list_is : list ≡ (shown copies).prefix.log ++ listed held
  pub calm_is : NoneExpiredBefore calm (kept_content (content_of (shown copies).catalogue) held)
  pub steps : StepsFor (shown copies) held (steps_of copies)
  pub small : retained_bytes (kept_content (content_of (shown copies).catalogue) held).retained ≤ memory

-- a Clear may take the last memory, since what it clears is given back
abbrev pub takes_last : Operation → Bool
takes_last (Set found) = false
takes_last (Clear topic) = true
takes_last (Sweep moment) = false

-- the list published, and nothing held
abbrev pub shows : List Entry → Written
shows list = record { published = list; held = [] }

-- the list published, and the entry held
abbrev pub holds_back : List Entry → Entry → Written
holds_back list e = record { published = list; held = e ∷ [] }

-- the Sweep is the one that comes before the entry
abbrev pub Precedes : ℕ → List Entry → Entry → Entry → Type 0
Precedes limit history e sweep = (s : NeedsSweepAfter limit history e) × (sweep ≡ sweep_after s.message.received history)

-- all that was kept is published, and behind it the Sweep that comes before the entry, if it does not come next without
abbrev pub IsReady : ℕ → Written → Entry → Written → Type 0
IsReady limit w e w' = (IsLegal limit (extended (kept_of w) e) × (w' ≡ released w))
    ⊎ ((s : NeedsSweepAfter limit (kept_of w) e) × (w' ≡ shows (cleaned s.message.received (kept_of w))))

-- why the entry does not come next behind the published list, if nothing is held
abbrev pub Declines : ℕ → List Entry → Entry → PutFault → Type 0
Declines limit history e fault.Stale = MayNotCome limit history e refusal.Stale
Declines limit history e fault.Full = MayNotCome limit history e refusal.Full
Declines limit history e fault.NoMemory = ⊥
Declines limit history e fault.Held = ⊥

-- the entry is not appended to the kept list, all of which is published
abbrev pub IsDeclined : ℕ → Written → Entry → Refusal → Written → Type 0
IsDeclined limit w e r w' = MayNotCome limit (kept_of w) e r × (w' ≡ released w)

-- memory was refused for the Sweep of the moment or for the entry behind it: what was kept is published, and the Sweep is not kept,
-- or it is held, or it is published too
abbrev pub IsSweptInPart : ℕ → Written → Written → Type 0
IsSweptInPart moment w w' = (w' ≡ released w) ⊎ (w' ≡ holds_back (kept_of w) (sweep_after moment (kept_of w)))
    ⊎ (w' ≡ shows (cleaned moment (kept_of w)))

-- What a refusal says, and what it leaves. 31, 30: the held entry, if any, is published. 32: the same, and the entry may come next;
-- or it may come after a Sweep, which may be kept; or the held entry could not be published, and nothing changed. 33: the kept list
-- from before is published, and the Sweep that comes before the entry, if there is one, and the entry is held
abbrev pub Refuses : ℕ → Written → Entry → PutFault → Written → Type 0
Refuses limit w e fault.Stale w' = IsDeclined limit w e refusal.Stale w'
Refuses limit w e fault.Full w' = IsDeclined limit w e refusal.Full w'
Refuses limit w e fault.NoMemory w' = (IsLegal limit (extended (kept_of w) e) × (w' ≡ released w))
    ⊎ ((s : NeedsSweepAfter limit (kept_of w) e) × IsSweptInPart s.message.received w w') ⊎ ((w.held ≢ []) × (w' ≡ w))
Refuses limit w e fault.Held w' = (IsLegal limit (extended (kept_of w) e) × (w' ≡ holds_back (kept_of w) e))
    ⊎ ((s : NeedsSweepAfter limit (kept_of w) e) × (w' ≡ holds_back (cleaned s.message.received (kept_of w)) e))

-- what is left if an entry that may come next behind the published list, with nothing held, is not published
abbrev pub Defers : Written → Entry → PutFault → Written → Type 0
Defers w e fault.Stale w' = ⊥
Defers w e fault.Full w' = ⊥
Defers w e fault.NoMemory w' = w' ≡ w
Defers w e fault.Held w' = w' ≡ holds_back w.published e

-- the entry is held behind this list. Nothing that was published is taken back, and some of what was held may be published
abbrev pub IsHeldBehind : List Entry → Written → Entry → Written → Type 0
IsHeldBehind list w e w' = (kept_of w' ≡ extended list e) × IsPrefix w.published w'.published × (w'.held ≢ [])

-- The same of a writer that may hold many entries. 32: or not all that was held could be published, and nothing else changed. 33: the entry
-- is held behind the kept list, and the Sweep that comes before it, if there is one. With at most one held entry that is what is said above
abbrev pub RefusesOf : ℕ → Written → Entry → PutFault → Written → Type 0
RefusesOf limit w e fault.Stale w' = IsDeclined limit w e refusal.Stale w'
RefusesOf limit w e fault.Full w' = IsDeclined limit w e refusal.Full w'
RefusesOf limit w e fault.NoMemory w' = (IsLegal limit (extended (kept_of w) e) × (w' ≡ released w))
    ⊎ ((s : NeedsSweepAfter limit (kept_of w) e) × IsSweptInPart s.message.received w w') ⊎ ((w'.held ≢ []) × IsReleasedInPart w w')
RefusesOf limit w e fault.Held w' = (IsLegal limit (extended (kept_of w) e) × IsHeldBehind (kept_of w) w e w')
    ⊎ ((s : NeedsSweepAfter limit (kept_of w) e) × IsHeldBehind (cleaned s.message.received (kept_of w)) w e w')

-- What becomes of an entry that is not put, since one before it of its job is held: it is not kept, and nothing changed; or it may come next,
-- and is held, too
abbrev pub PassesOver : ℕ → Written → Entry → PutFault → Written → Type 0
PassesOver limit w e fault.Stale w' = ⊥
PassesOver limit w e fault.Full w' = ⊥
PassesOver limit w e fault.NoMemory w' = w' ≡ w
PassesOver limit w e fault.Held w' = IsLegal limit (extended (kept_of w) e)
    × (w' ≡ record { published = w.published; held = w.held ++ e ∷ [] })

-- whatever a writer that holds at most one entry refuses: both say the same
abbrev pub OneHeld : Type 0
OneHeld = (limit : ℕ) (w w' : Written) (e : Entry) (f : PutFault) → length w.held ≤ 1 → length w'.held ≤ 1
    → RefusesOf limit w e f w' → Refuses limit w e f w'

-- a writer that was made ready for these entries is ready for them, or for none
abbrev pub IsReadyFor : List Entry → List Entry → Type 0
IsReadyFor ready entries = (ready ≡ []) ⊎ (ready ≡ entries)

-- the entry is the next of those for which a writer was made ready, if there are any
abbrev pub IsNextOf : List Entry → Entry → Type 0
IsNextOf ready entry = (ready ≡ []) ⊎ ((rest : List Entry) × (ready ≡ entry ∷ rest))
