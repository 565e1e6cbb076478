-- What contracts see of a turn: the connections that it will still give, the one that is out, and those that it took back.
use Rattle.std.specs.Prelude.{◌≡◌, ℕ, Option, Some, None, List, [], ◌∷◌, ◌++◌, ⊤, Result}
use Rattle.rs_server.specs.declared.connection.Served.{Served}
use Rattle.rs_server.specs.declared.writing.ServeFault.{ServeFault}

-- a connection as contracts see it: the bytes that its reader has left, those that its writer holds, and the times that its clock will
-- tell
pub record Streams : Type 0 where
  pub unread : Option (List ℕ)
  pub written : Option (List ℕ)
  pub moments : Option (ℕ → ℕ)

-- a connection that was taken back: what contracts see of it then, how often its reader and its writer failed, and how it ended
pub record Ending : Type 0 where
  pub streams : Streams
  pub read_failures : ℕ
  pub write_failures : ℕ
  pub result : Result Served ServeFault

-- the connections that a turn will still give, the one that it gave last if it was not taken back, and those that it took back; those of a
-- list in their order; each if it is told
pub record Connections : Type 0 where
  pub waiting : Option (List Streams)
  pub out : Option (Option Streams)
  pub ended : Option (List Ending)

-- nothing is told
abbrev pub none_given : Connections
none_given = record { waiting = None; out = None; ended = None }

-- these are the first of those that waited, and the others still wait, if they are given
abbrev pub Gave : Option (List Streams) → List Streams → Option (List Streams) → Type 0
Gave None given rest = ⊤
Gave (Some waiting) given None = ⊥
Gave (Some waiting) given (Some rest) = waiting ≡ given ++ rest

-- these are all that waited, if they are given
abbrev pub AreAll : Option (List Streams) → List Streams → Type 0
AreAll None given = ⊤
AreAll (Some waiting) given = waiting ≡ given

-- these were taken back after those before, if all of them are still given
abbrev pub TookBack : Option (List Ending) → List Ending → Option (List Ending) → Type 0
TookBack before endings None = ⊤
TookBack None endings (Some all) = ⊥
TookBack (Some before) endings (Some all) = all ≡ before ++ endings

-- the first connection that waits is given, or none does
abbrev pub GivesFirst : Option (List Streams) → Option Streams → Option (List Streams) → Type 0
GivesFirst old (Some given) new = Gave old (given ∷ []) new
GivesFirst old None new = AreAll old []

-- this connection is out, or none is, if that is told
abbrev pub IsOut : Option Streams → Option (Option Streams) → Type 0
IsOut given None = ⊤
IsOut given (Some out) = out ≡ given

-- the next connection is given, so it is out, and none is taken back
pub record GivesNext (old : Connections) (given : Option Streams) (new : Connections) : Type 0 where
  pub waiting : GivesFirst old.waiting given new.waiting
  pub out : IsOut given new.out
  pub ended : TookBack old.ended [] new.ended

-- the connection that is out is taken back, and none is given
pub record TakesBack (old : Connections) (ending : Ending) (new : Connections) : Type 0 where
  pub waiting : Gave old.waiting [] new.waiting
  pub out : IsOut None new.out
  pub ended : TookBack old.ended (ending ∷ []) new.ended
