-- The rule of the published copy, and what a publish or a read tells.
use Rattle.std.specs.Prelude.{ℕ, ◌≡◌, ◌≤◌, List, Option, Some}
use mathlib.Core.Option.{some}
use mathlib.Core.List.{IsPrefix}
use lib.ListN.{get_elem?}
use Rattle.rs_message.specs.declared.entry.TheConstants.{MAX_LINES}
use Rattle.rs_store.specs.Contents.{Accepts, followed}
use Rattle.rs_store.specs.History.{Stands, extended}
use Rattle.rs_version.specs.Catalogues.{content_of}
use Rattle.rs_store.specs.declared.content.Content.{Content}
use Rattle.logbook.specs.Pages.{Book}
use Rattle.rs_version.specs.Prefixes.{PrefixValue}
use Rattle.rs_version.specs.declared.catalogue_copy.CatalogueCopy.{CatalogueCopy}
use Rattle.rs_version.specs.declared.catalogue_copy.CopyStep.{CopyStep}
use Rattle.rs_version.specs.declared.rule.KnownVersion.{KnownVersion}

-- what both copies have in common, and what a step does to it
abbrev pub state : CatalogueCopy → Content × PrefixValue
state c = (content_of c.catalogue, c.prefix)

abbrev pub applied : Content × PrefixValue → CopyStep → Content × PrefixValue
applied s step = (followed s.0 step.entry, step.after)

-- what a reader or writer knows after it saw this copy
abbrev pub known : CatalogueCopy → KnownVersion
known x = record { limit = (content_of x.catalogue).limit; prefix = x.prefix }

-- the copy continues what is known
abbrev pub Continues : KnownVersion → CatalogueCopy → Type 0
Continues u x = (x.prefix.history ≡ u.prefix.history) × ((content_of x.catalogue).limit ≡ u.limit) × IsPrefix u.prefix.log x.prefix.log

-- the catalogue has the content of the prefix, which is legal
abbrev pub IsSound : CatalogueCopy → Type 0
IsSound x = Stands (content_of x.catalogue) x.prefix.log

abbrev pub Keeps : CatalogueCopy → List (Option KnownVersion) → Type 0
Keeps x views = IsSound x × ((seat : ℕ) (u : KnownVersion) → get_elem? views seat ≡ some (Some u) → Continues u x)

-- whoever knew v now knows the copy y, which continues what it knew
abbrev pub SeesIt : Option KnownVersion → CatalogueCopy → CatalogueCopy → Option KnownVersion → Type 0
SeesIt v x y w = (w ≡ Some (known y)) × IsSound y × ((u : KnownVersion) → v ≡ Some u → Continues u y)

-- the step is the next one of the copy
abbrev pub Follows : CatalogueCopy → CopyStep → Type 0
Follows x s = (s.entry.origin.place ≤ MAX_LINES) × Accepts (content_of x.catalogue) s.entry × (s.after.history ≡ x.prefix.history)
    × (s.after.log ≡ extended x.prefix.log s.entry)

-- something of this history and this limit is known
abbrev pub Names : Book → ℕ → Option KnownVersion → Type 0
Names history limit v = (u : KnownVersion) × (v ≡ Some u) × (u.prefix.history ≡ history) × (u.limit ≡ limit)
