-- What a client began with, wherever it is, and where a step may bring it.
use Rattle.std.specs.Prelude.{Bool, true, false}
use Rattle.rs_places_steps.specs.declared.begun.Begun.{Begun}
use Rattle.rs_places_steps.specs.declared.stages.Stage.{Stage}
use Rattle.rs_places_steps.specs.declared.stages.Stage.TheVariants.{Free, Served, Read, Ended, Done}

abbrev pub begun_of : {T G I O C E N : Type 0} → Stage T G I O C E N → Begun T G
begun_of (Free begun) = begun
begun_of (Served begun) = begun
begun_of (Read begun) = begun
begun_of (Ended begun) = begun
begun_of (Done begun) = begun

-- whether something was read that is not handled yet
abbrev pub was_read : {T G I O C E N : Type 0} → Stage T G I O C E N → Bool
was_read (Free begun) = false
was_read (Served begun) = false
was_read (Read begun) = true
was_read (Ended begun) = false
was_read (Done begun) = false

-- the step that takes its next connection brings it here: it is served, memory was refused for that, or there is no connection more
abbrev pub IsNext : {T G I O C E N : Type 0} → Stage T G I O C E N → Type 0
IsNext (Free begun) = ⊥
IsNext (Served begun) = Unit {0}
IsNext (Read begun) = ⊥
IsNext (Ended begun) = Unit {0}
IsNext (Done begun) = Unit {0}

-- the step that reads brings it here: something was read, or its connection has ended
abbrev pub IsReadOrEnded : {T G I O C E N : Type 0} → Stage T G I O C E N → Type 0
IsReadOrEnded (Free begun) = ⊥
IsReadOrEnded (Served begun) = ⊥
IsReadOrEnded (Read begun) = Unit {0}
IsReadOrEnded (Ended begun) = Unit {0}
IsReadOrEnded (Done begun) = ⊥

-- the step that handles brings it here: it is served further, or its connection has ended
abbrev pub IsServedOrEnded : {T G I O C E N : Type 0} → Stage T G I O C E N → Type 0
IsServedOrEnded (Free begun) = ⊥
IsServedOrEnded (Served begun) = Unit {0}
IsServedOrEnded (Read begun) = ⊥
IsServedOrEnded (Ended begun) = Unit {0}
IsServedOrEnded (Done begun) = ⊥
