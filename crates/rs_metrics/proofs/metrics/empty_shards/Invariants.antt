use Rattle.std.proofs.Common.{◌≡◌, vec_len}
use Rattle.rs_metrics.proofs.metrics.empty_shards.Given as goal

abbrev pub invariant-loop-made : goal.invariant-loop-made
invariant-loop-made l = vec_len l.shards ≡ l.made
