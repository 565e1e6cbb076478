use Rattle.std.proofs.Common.{refl}
use Rattle.rs_tree_branch.specs.Chunks.{parts}
use Rattle.rs_tree_branch.proofs.Dividing.{chunk_two, from_least, parts_two}
use Rattle.rs_tree_branch.proofs.branch.chunks.two_chunks.Goals as goal

pub halve-requires-clause-start : goal.halve-requires-clause-start
halve-requires-clause-start c = rw c.empty.ensures (from_least c.args.children.now c.requires.chunk)

pub returns-clause-chunk : goal.returns-clause-chunk
returns-clause-chunk c = chunk_two c.empty.result (parts c.args.children.now) c.in_ok-low.low c.in_ok-low.high c.push-2.new.self.items (rw (c.in_ok-push-2.ensures.items, c.in_ok-push.ensures.items, c.in_ok-chunks.ensures.items) refl) c.in_ok-low.ensures

pub returns-clause-same : goal.returns-clause-same
returns-clause-same c = parts_two c.empty.result (parts c.args.children.now) c.in_ok-low.low c.in_ok-low.high c.push-2.new.self.items (rw (c.in_ok-push-2.ensures.items, c.in_ok-push.ensures.items, c.in_ok-chunks.ensures.items) refl) c.in_ok-low.ensures
