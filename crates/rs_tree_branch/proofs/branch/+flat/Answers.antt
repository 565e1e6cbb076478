use Rattle.std.proofs.Common.{◌≡◌, ◌+◌, ◌<◌, ◌≤◌, length, ◌∷◌, [], ◌++◌, List, sym, ap, subst, ◌∙◌, arith}
use Rattle.std.proofs.lemmas.List.{append-nil}
use Rattle.rs_tree_branch.specs.Chunks.{IsChunk, depth, parts}
use Rattle.rs_tree_branch.specs.Values.{BranchValue, ChildValue}
use Rattle.rs_tree_branch.proofs.Flattening.{before_child, flat_end, flat_more}
use Rattle.rs_tree_branch.proofs.Growing.{from_at}
use Rattle.rs_tree_branch.proofs.Leaving.{chunk_push, full_at, parts_push}
use Rattle.rs_tree_branch.proofs.Chunks.{deep_child}
use Rattle.rs_tree_branch.proofs.branch.+flat.Goals as goal

pub flat::flatten_each-loop-i-init : goal.flat::flatten_each-loop-i-init
flat::flatten_each-loop-i-init t c = (c.requires.chunk, sym (append-nil (parts c.args.flat.now.items)))

pub flat::flatten_each-loop-i-preserved : goal.flat::flatten_each-loop-i-preserved
flat::flatten_each-loop-i-preserved t c =
    (c.in_ok-flatten_into-in_default.ensures.chunk, flat_more (parts c.args.flat.now.items) c.loop-i.flat.items c.flatten_into.new.flat.items c.args.children.now c.loop-i.i c.index-children-i.result (omega (arith, c.loop-i-test.true)) c.index-children-i.is c.loop-i.invariant.1 c.in_ok-flatten_into-in_default.ensures.same)

pub flat::flatten_each-returns-clause-chunk : goal.flat::flatten_each-returns-clause-chunk
flat::flatten_each-returns-clause-chunk t c = c.loop-i.invariant.0

pub flat::flatten_each-returns-clause-same : goal.flat::flatten_each-returns-clause-same
flat::flatten_each-returns-clause-same t c = flat_end (parts c.args.flat.now.items) c.loop-i.flat.items c.args.children.now c.loop-i.i (omega (arith, c.loop-i-test.false)) c.loop-i.invariant.1

pub flat::flatten_each-flatten_into-requires : goal.flat::flatten_each-flatten_into-requires
flat::flatten_each-flatten_into-requires t c =
    let child : ChildValue = c.index-children-i.result in
    let small : c.loop-i.i < length c.args.children.now = omega (arith, c.loop-i-test.true) in
    let deep : child.depth + 1 ≤ depth c.args.children.now = deep_child c.args.children.now c.loop-i.i child small c.index-children-i.is in (
      omega arith,
      (
        full_at c.args.children.now c.loop-i.i child small c.index-children-i.is c.requires.children,
        (
          from_at c.args.children.now c.loop-i.i child small c.index-children-i.is c.requires.children,
          (
            c.loop-i.invariant.0,
            before_child c.args.level.now (parts c.args.flat.now.items) c.loop-i.flat.items c.args.children.now c.loop-i.i child small c.index-children-i.is c.requires.children c.requires.before (rw (c.cmp.ensures, c.level.ensures) at c.in_default.not-Less) c.loop-i.invariant.1,
          ),
        ),
      ),
    )

pub Branch::flatten_into-flatten_each-requires : goal.Branch::flatten_into-flatten_each-requires
Branch::flatten_into-flatten_each-requires t c =
    let whole : depth c.self.inside.children.items ≡ c.args.self.now.depth = ap (λ (v : BranchValue). v.depth) c.self.view_is in
    let same : depth c.as_slice.result.now ≡ depth c.self.inside.children.items = ap depth c.as_slice.ensures.value in
    (omega arith, (rw c.as_slice.ensures.value c.self.invariant, (c.requires.chunk, c.requires.before)))

pub Child::flatten_into-returns-clause-chunk : goal.Child::flatten_into-returns-clause-chunk
Child::flatten_into-returns-clause-chunk t c =
    let P : List ChildValue → Type 0 = λ l. IsChunk l in
    subst P (sym (c.in_ok-push.ensures.items ∙ ap (λ (x : ChildValue). c.args.flat.now.items ++ x ∷ []) c.in_ok-copy.ensures)) (chunk_push c.args.flat.now.items c.args.self.now c.requires.chunk c.requires.before c.requires.full c.requires.from)

pub Child::flatten_into-returns-clause-same : goal.Child::flatten_into-returns-clause-same
Child::flatten_into-returns-clause-same t c =
    ap parts (c.in_ok-push.ensures.items ∙ ap (λ (x : ChildValue). c.args.flat.now.items ++ x ∷ []) c.in_ok-copy.ensures) ∙ parts_push c.args.flat.now.items c.args.self.now
