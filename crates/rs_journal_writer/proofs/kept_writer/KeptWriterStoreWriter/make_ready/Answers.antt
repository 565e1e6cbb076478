use Rattle.std.proofs.Common.{◌∙◌, ◌++◌, ap, subst, sym}
use Rattle.rs_store.specs.History.{SerialsRise}
use Rattle.rs_version.specs.Space.{HasSpaceFor}
use Rattle.rs_version.specs.Writer.{kept_of}
use Rattle.rs_journal_writer.specs.Keeping.{KeptValue}
use Rattle.rs_journal_writer.proofs.kept_writer.KeptWriterStoreWriter.make_ready.Goals as goal

pub tidy-requires-clause-none : goal.tidy-requires-clause-none
tidy-requires-clause-none g c = c.has_space_for.ensures.none c.if-not-has_space_for.false

pub keep_first-requires-clause-ready : goal.keep_first-requires-clause-ready
keep_first-requires-clause-ready g c = ap (λ (k : KeptValue). k.ready) c.tidy.ensures.same ∙ c.requires.none

pub keep_first-requires-clause-none : goal.keep_first-requires-clause-none
keep_first-requires-clause-none g c = ap (λ (k : KeptValue). k.written.held) c.tidy.ensures.same ∙ c.has_space_for.ensures.none c.if-not-has_space_for.false

pub keep_first-requires-clause-few : goal.keep_first-requires-clause-few
keep_first-requires-clause-few g c = c.has_space_for.ensures.few c.if-not-has_space_for.false

pub keep_first-requires-clause-rises : goal.keep_first-requires-clause-rises
keep_first-requires-clause-rises g c =
    let P : KeptValue → Type 0 = λ k. SerialsRise (kept_of k.written ++ c.args.changes.now.items) in
    subst P (sym c.tidy.ensures.same) c.requires.rises

pub keep_first-requires-clause-space : goal.keep_first-requires-clause-space
keep_first-requires-clause-space g c =
    let P : KeptValue → Type 0 = λ k. HasSpaceFor g.N.StoreName.limit k.written.published c.args.count in
    subst P (sym c.tidy.ensures.same) (c.has_space_for.ensures.space c.if-not-has_space_for.false)

pub returns-clause-same : goal.returns-clause-same
returns-clause-same g c = c.keep_first.ensures.same ∙ ap (λ (k : KeptValue). k.written) c.tidy.ensures.same
