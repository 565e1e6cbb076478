use Rattle.std.proofs.Common.{◌≡◌, ◌∷◌, [], ℕ, ◌-◌, length, take, ap, subst, length-append, arith}
use Rattle.rs_version.specs.Writer.{IsReadyFor}
use Rattle.rs_intake.proofs.Done.{left_less, left_rises, ready_left, ready_next, put_more, put_none, put_one, refused_one}
use Rattle.rs_intake.proofs.ways_back.reply_to_first.Goals as goal

pub loop-rest-init : goal.loop-rest-init
loop-rest-init g c =
    let none = ap length c.requires.reserved.0 in
    let ready = g.S.StoreWriter.ready c.args.writer.now in
    let rest = c.args.rest.now.items in (
      c.requires.left,
      put_none _ _ _ _ _ c.requires.reserved.0,
      omega (arith, none),
      omega arith,
      c.requires.reserved.1,
      omega (arith, none),
      (λ n more r.
          let P : ℕ → Type 0 = λ k. IsReadyFor ready (take k rest) in
          let whole : n ≡ n - length c.args.reserved.items = omega (arith, none) in
          subst P whole r),
    )

pub reply_to_next-reply-requires-clause-rises : goal.reply_to_next-reply-requires-clause-rises
reply_to_next-reply-requires-clause-rises g c =
    let value = c.serial-serial.ensures.value in
    let some = c.serial-serial.ensures.some in
    left_rises _ _ _ _ _ c.in-Some.ensures.items (omega (arith, value, some)) c.loop-rest.invariant.0

pub reply_to_next-reply-requires-clause-next : goal.reply_to_next-reply-requires-clause-next
reply_to_next-reply-requires-clause-next g c =
    let test = c.loop-rest-test.true in
    let r = c.requires.ready in
    let more = r.1 in
    ready_next (g.S.StoreWriter.ready c.loop-rest.writer) (r.0 - length c.loop-rest.replies.items) c.loop-rest.rest.items _ c.in-Some.entry (omega (arith, test, more)) c.in-Some.ensures.items (c.loop-rest.invariant.6 r.0 more r.2)

pub loop-rest-preserved : goal.loop-rest-preserved
loop-rest-preserved g c =
    let i = c.loop-rest.invariant in
    let e = c.reply_to_next-reply.ensures in
    let reply = c.reply_to_next-reply.result in
    let first = c.in-Some.ensures.items in
    let n = ap length first in
    let items = c.in-Ok.ensures.items in
    let m = ap length items in
    let sum = length-append c.loop-rest.replies.items (reply ∷ []) in
    let all = i.2 in
    let few = i.3 in
    let reserved = i.4 in
    let test = c.loop-rest-test.true in
    let capacity = c.in-Ok.ensures.capacity in
    let count = c.refused_count-refused.ensures in
    let one = refused_one reply.outcome in (
      left_less _ _ _ _ _ _ _ first e.done i.0,
      put_more _ _ _ _ _ _ _ _ _ _ _ _ _ _ _ i.1 (put_one _ _ _ _ _ _ reply _ _ _ first e.done e.origin e.outcome e.behind e.held count) items,
      omega (arith, n, m, sum, all),
      omega (arith, m, sum, few, count, one),
      omega (arith, m, sum, reserved, capacity),
      omega (arith, m, sum, test),
      (λ n more r. ready_left (g.S.StoreWriter.ready c.loop-rest.writer) (g.S.StoreWriter.ready c.reply_to_next-reply.new.writer) (n - length c.loop-rest.replies.items) _
          c.loop-rest.rest.items _ c.in-Some.entry (omega (arith, m, sum, test, more)) first e.ready (i.6 n more r)),
    )

pub returns-clause-ready : goal.returns-clause-ready
returns-clause-ready g c = λ n more r.
    let i = c.loop-rest.invariant in
    let test = c.loop-rest-test.false in
    let few = i.5 in
    let P : ℕ → Type 0 = λ k. IsReadyFor (g.S.StoreWriter.ready c.loop-rest.writer) (take (n - k) c.loop-rest.rest.items) in
    let all : length c.loop-rest.replies.items ≡ c.args.count = omega (arith, test, few) in
    subst P all (i.6 n more r)
