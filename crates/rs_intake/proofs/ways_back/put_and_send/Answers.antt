use Rattle.std.proofs.Common.{◌++◌, [], refl, arith}
use Rattle.rs_intake.proofs.Done.{put_more, put_none}
use Rattle.rs_intake.proofs.Telling.{sent_next, sent_none}
use Rattle.rs_intake.proofs.ways_back.put_and_send.Goals as goal

pub loop-alloc-init : goal.loop-alloc-init
loop-alloc-init g c =
    let few = c.requires.few in
    (c.requires.left, ([], put_none _ _ _ _ _ refl, sent_none c.args.to.now), omega (arith, few), c.requires.ready)

pub loop-alloc-preserved : goal.loop-alloc-preserved
loop-alloc-preserved g c =
    let i = c.loop-alloc.invariant in
    let e = c.next_replies-replies.ensures in
    let few = i.2 in
    let refused = e.refused in (
      e.left,
      (
        i.1.0 ++ c.next_replies-replies.result.0,
        put_more _ _ _ _ _ _ _ _ _ _ _ _ _ _ _ i.1.1 e.put refl,
        sent_next c.args.to.now c.loop-alloc.to c.send.new.self _ _ i.1.2 c.send.ensures,
      ),
      omega (arith, few, refused),
      e.ready,
    )
