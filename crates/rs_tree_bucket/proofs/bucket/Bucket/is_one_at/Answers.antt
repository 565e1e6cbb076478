use Rattle.std.proofs.Common.{sym, ◌∙◌}
use Rattle.rs_topic.specs.Rests.{levels_from}
use Rattle.rs_tree_bucket.proofs.Buckets.{put_one}
use Rattle.rs_tree_bucket.proofs.bucket.Bucket.is_one_at.Goals as goal

pub returns-in-One-clause-alone : goal.returns-in-One-clause-alone
returns-in-One-clause-alone c same f =
    rw (← c.self.view_is, c.in-One.is) (put_one (levels_from c.args.at c.args.topic.now) (levels_from c.in-One.from c.in-One.found.topic) f c.in-One.found (sym c.is_same.ensures ∙ same))
