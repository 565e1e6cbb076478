use Rattle.std.proofs.Common.{rules, ap, ◌∙◌, not}
use Rattle.std.proofs.lemmas.Fn.{filter_same}
use Rattle.rs_message.specs.Messages.{is_expired}
use Rattle.rs_tree_bucket.specs.Buckets.{spots_in}
use Rattle.rs_tree_bucket.proofs.Sweeping.{swept_leaves}
use Rattle.rs_tree_bucket.proofs.leaves.sweep_each.Goals as goal

pub returns : goal.returns
returns c = ap spots_in (filter_same _ (λ l. not (is_expired c.args.moment l.found.message)) _ (λ x b f' k. search rules) _ _ c.retain.ensures.filtered) ∙ swept_leaves c.args.moment c.args.leaves.now.items
