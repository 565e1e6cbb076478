-- The published copy, and the steps that it does not have yet.
use Rattle.std.specs.Prelude.{List, [], ◌∷◌, ◌++◌, drop, Option, Some, None}
use Rattle.rs_version.specs.declared.catalogue_copy.CatalogueCopy.{CatalogueCopy}
use Rattle.rs_version.specs.declared.catalogue_copy.CopyStep.{CopyStep}
use Rattle.rs_version.specs.declared.copies.Copies.{Copies}

abbrev pub shown : Copies → CatalogueCopy
shown e = e.writer.desk.shown.value

abbrev pub listed : {A : Type 0} → Option A → List A
listed None = []
listed (Some x) = x ∷ []

abbrev pub steps_of : Copies → List CopyStep
steps_of e = drop e.writer.behind e.writer.log.items ++ listed e.waiting
