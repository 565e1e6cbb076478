-- How the writer puts the changes of a job and sends the replies to them, some at a time.
use Rattle.std.specs.Prelude.{ℕ, ◌≡◌, ◌<◌, ◌-◌, ◌||◌, Bool, true, List, ◌++◌, slice_set, Option, Some, None}
use Rattle.std.specs.List.{AllByRecursion}
use Rattle.rs_message.specs.declared.entry.Entry.{Entry}
use Rattle.rs_store.specs.History.{SerialsRise}
use Rattle.rs_version.specs.Writer.{Written}
use Rattle.rs_intake_queue.specs.Changes.{ArePlain}
use Rattle.rs_intake_line.specs.Done.{AreReplied, AreSent, IsBehindHeld, ReplyValue, Told, has_held, way_to}
use Rattle.rs_intake_line.specs.Sweeps.{IsKeptFrom}
use Rattle.rs_intake_queue.specs.declared.waiting.Gone.{Gone}

-- The changes that are left of a job: they rise behind what was taken before them, from which this list came to be. None is a Sweep, and
-- none is of the writer
pub record AreToPut (limit : ℕ) (kept rest : List Entry) : Type 0 where
  pub entries : List Entry
  pub kept_from : IsKeptFrom limit entries kept
  pub rise : SerialsRise (entries ++ rest)
  pub plain : ArePlain rest
  pub above : AllByRecursion (λ (e : Entry). 0 < e.origin.place) rest

-- The first of the changes that are left of a job have an outcome, and the others are left then. These are the replies, and so many of the
-- changes are not kept. If one of the same job before them is held, each is refused, or held if the writer may hold more than one. Whether one is
-- held afterwards
pub record ArePut (limit most : ℕ) (w : Written) (held : Bool) (rest : List Entry) (replies : List ReplyValue) (refused : ℕ) (held' : Bool)
    (rest' : List Entry) (w' : Written) : Type 0 where
  pub first : List Entry
  pub are : rest ≡ first ++ rest'
  pub replied : AreReplied limit most w first replies refused w'
  pub behind : held ≡ true → AllByRecursion (IsBehindHeld most) replied.outcomes
  pub held_is : held' ≡ (held || has_held replied.outcomes)

-- These replies were sent behind those before: all of them, unless a send failed, and then not all. If a send before them failed, none
-- was, and nothing changed
abbrev pub AreSentBehind : Option Gone → List ReplyValue → List ReplyValue → Told → Type 0
AreSentBehind None sent replies after = (more : List ReplyValue) × (after.sent ≡ sent ++ more) × AreSent replies more after.gone
AreSentBehind (Some gone) sent replies after = after ≡ record { sent = sent; gone = Some gone }

-- the same of a way back before and after
abbrev pub AreSentNext : Told → List ReplyValue → Told → Type 0
AreSentNext before replies after = AreSentBehind before.gone before.sent replies after

-- these replies were sent next by the way back to this place, and nothing by any other
abbrev pub AreSentTo : ℕ → List Told → List ReplyValue → List Told → Type 0
AreSentTo place ways replies ways' = (told : Told) × AreSentNext (way_to place ways) replies told
    × (ways' ≡ slice_set ways (place - 1) told)
