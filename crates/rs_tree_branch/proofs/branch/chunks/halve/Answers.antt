use Rattle.std.proofs.Common.{◌≡◌, ◌∙◌, ◌/◌, ap, arith, drop, get_or, length}
use Rattle.rs_tree_branch.specs.Chunks.{parts}
use Rattle.rs_tree_branch.specs.Values.{ChildValue}
use Rattle.rs_tree_branch.proofs.Dividing.{are_halves, chunk_take}
use Rattle.rs_tree_branch.proofs.Chunks.{chunk_drop}
use Rattle.rs_tree_branch.proofs.branch.chunks.halve.Goals as goal

pub chunk-requires : goal.chunk-requires
chunk-requires c = rw c.split_at.ensures.front (chunk_take c.args.children.now (length c.args.children.now / 2) c.requires.chunk)

pub chunk-requires-2 : goal.chunk-requires-2
chunk-requires-2 c = rw c.split_at.ensures.back (chunk_drop c.args.children.now (length c.args.children.now / 2) c.requires.chunk)

pub returns : goal.returns
returns c =
    let half = length c.args.children.now / 2 in
    let low = c.in_ok-chunk.field-0 in
    let high = c.in_ok-chunk-2.field-0 in
    let first : c.index-high-0.result ≡ get_or (drop half c.args.children.now) 0 c.index-high-0.result = rw c.split_at.ensures.back at c.index-high-0.is in
    let above : high.level ≡ (get_or (drop half c.args.children.now) 0 c.index-high-0.result).level = c.in_ok-chunk-2.ensures.level ∙ (c.in_ok-middle.ensures ∙ (ap (λ (w : ChildValue). w.level) c.first.view_is ∙ ap (λ (w : ChildValue). w.level) first)) in
    are_halves c.args.level c.args.children.now half c.index-high-0.result low high c.requires.chunk c.requires.start (omega (arith, c.requires.many)) (omega (arith, c.requires.many)) c.in_ok-chunk.ensures.level (c.in_ok-chunk.ensures.spots ∙ ap parts c.split_at.ensures.front) above (c.in_ok-chunk-2.ensures.spots ∙ ap parts c.split_at.ensures.back)
