use Rattle.std.proofs.Common.{List, ◌∷◌, [], refl, inl, subst, arith}
use Rattle.rs_intake_line.specs.Done.{ReplyValue}
use Rattle.rs_intake_line.specs.Sending.{AreSentNext}
use Rattle.rs_intake.proofs.Done.{left_plain, left_rises, replied_one}
use Rattle.rs_intake.proofs.ways_back.put_alone.Goals as goal

pub reply_to-reply-requires-clause-no_sweep : goal.reply_to-reply-requires-clause-no_sweep
reply_to-reply-requires-clause-no_sweep g c = left_plain _ _ (c.args.entry ∷ []) [] c.args.entry refl c.requires.left

pub reply_to-reply-requires-clause-rises : goal.reply_to-reply-requires-clause-rises
reply_to-reply-requires-clause-rises g c =
    let value = c.serial-serial.ensures.value in
    let some = c.serial-serial.ensures.some in
    left_rises _ _ (c.args.entry ∷ []) [] c.args.entry refl (omega (arith, value, some)) c.requires.left

pub returns-clause-replied : goal.returns-clause-replied
returns-clause-replied g c =
    let e = c.reply_to-reply.ensures in
    let reply = c.reply_to-reply.result in
    let S : List ReplyValue → Type 0 = λ l. AreSentNext c.args.to.now l c.send.new.self in
    (reply ∷ [], replied_one _ _ c.args.entry reply _ _ e.done e.origin (inl e.put) c.refused_count-refused.ensures, subst S c.one-replies.ensures c.send.ensures)

pub reply_to-reply-requires-clause-next : goal.reply_to-reply-requires-clause-next
reply_to-reply-requires-clause-next g c = inl c.requires.ready
