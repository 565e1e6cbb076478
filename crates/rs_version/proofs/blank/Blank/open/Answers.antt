use Rattle.std.proofs.Common.{◌≡◌, List, [], ap, subst, ◌∙◌}
use Rattle.std.specs.Prelude.{All}
use Rattle.rs_message.specs.declared.entry.Entry.{Entry}
use Rattle.rs_store.proofs.Standing.{stands_empty}
use Rattle.rs_store.specs.declared.content.Content.{Content}
use Rattle.rs_version.specs.Catalogues.{content_of}
use Rattle.rs_version.specs.Prefixes.{PrefixValue}
use Rattle.rs_version.specs.Values.{BlankValue}
use Rattle.rs_version.specs.VersionRule.{known}
use Rattle.rs_version.specs.declared.catalogue_copy.CatalogueCopy.{CatalogueCopy}
use Rattle.rs_version.proofs.blank.Blank.open.Goals as goal

pub copy_writer-requires-clause-sound : goal.copy_writer-requires-clause-sound
copy_writer-requires-clause-sound g c = rw (c.self.invariant.0, ap (λ b. b.log) c.again.ensures ∙ c.self.inside.new_history.empty) (stands_empty c.self.inside.limit)

pub new-list-requires : goal.new-list-requires
new-list-requires g c = (ap (λ v. v.history) c.self.view_is ∙ c.requires.0, rw c.self.inside.new_history.empty (stands_empty g.N.StoreName.limit).legal)

-- by hand: a search would write out the serials of an empty content
pub seats-requires : goal.seats-requires
seats-requires g c =
    let shown = c.in_ok-writer-2.writer.desk.shown.value in
    let same = c.in_ok-writer-2.ensures.0 in
    let first = c.in_ok-writer.ensures.0 in (
      known shown,
      c.in_ok-writer-2.ensures.1,
      ap (λ (s : Content × PrefixValue). s.1.history) same ∙ (ap (λ (x : CatalogueCopy). x.prefix.history) first ∙ (ap (λ (p : PrefixValue). p.history) c.again.ensures ∙ (ap (λ (v : BlankValue). v.history) c.self.view_is ∙ c.requires.0))),
      ap (λ (s : Content × PrefixValue). s.0.limit) same ∙ (ap (λ (x : CatalogueCopy). (content_of x.catalogue).limit) first ∙ (ap (λ (k : Content). k.limit) c.self.invariant.0 ∙ (ap (λ (v : BlankValue). v.limit) c.self.view_is ∙ c.requires.1))),
    )

pub returns-in-Ok-clause-seats : goal.returns-in-Ok-clause-seats
returns-in-Ok-clause-seats g c =
    let list : c.new-list.result ≡ [] = c.new-list.ensures ∙ c.self.inside.new_history.empty in
    let P : List Entry → Type 0 = λ l. All (λ (s : List Entry). s ≡ l) c.in-Ok.seats.items in
    (c.in-Ok.ensures.seats.0 ∙ (c.get-places.ensures.value ∙ ap (λ (v : BlankValue). v.places) c.self.view_is), subst P list c.in-Ok.ensures.seats.1)
