use Rattle.std.proofs.Common.{◌≡◌, not, refl, ap, sym, ◌∙◌}
use Rattle.std.proofs.lemmas.Map.Entries.{filter_from_retain_pairs}
use Rattle.rs_message.specs.Messages.{is_expired}
use Rattle.rs_store.specs.Contents.{stays}
use Rattle.kit_test.proofs.map.sweep.Goals as goal

-- the closure keeps its moment from call to call
pub returns : goal.returns
returns c =
    let new = c.retain.new.self.entries in
    let moment = c.args.moment in
    filter_from_retain_pairs _ (λ f. f.0.now ≡ moment) (stays moment)
    (λ f k v b w f' i t.
    let call = t.called.met.0.said-raw.1.1.1.0 in
    let said = t.called.met.0.said-raw.1.1.1.1 in
    (said.0 ∙ ap not (call.ensures ∙ (λ j. is_expired (i j) (t.shows.1 j))), sym t.leaves ∙ (said.1 ∙ t.shows.1), ap (λ x. x.now) t.called.met.1 ∙ i))
    _ c.args.retained.now.entries new refl c.retain.ensures.filtered
