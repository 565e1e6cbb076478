use Rattle.std.proofs.Common.{List, ◌∷◌, [], take, sym, ap, subst, inl, arith}
use Rattle.rs_message.specs.declared.entry.Entry.{Entry}
use Rattle.rs_intake_line.specs.Done.{AreReplied, ReplyValue}
use Rattle.rs_intake.proofs.Done.{left_less, left_rises, replied_one}
use Rattle.rs_intake.proofs.ways_back.reply_to_one.Goals as goal

pub reply_to-reply-requires-clause-rises : goal.reply_to-reply-requires-clause-rises
reply_to-reply-requires-clause-rises g c =
    let value = c.serial-serial.ensures.value in
    let some = c.serial-serial.ensures.some in
    left_rises _ _ _ _ c.in-Some.entry c.in-Some.ensures.items (omega (arith, value, some)) c.requires.left

pub returns-clause-left : goal.returns-clause-left
returns-clause-left g c = left_less _ _ _ _ _ _ _ c.in-Some.ensures.items c.reply_to-reply.ensures.done c.requires.left

pub returns-clause-replied : goal.returns-clause-replied
returns-clause-replied g c =
    let e = c.reply_to-reply.ensures in
    let entry = c.in-Some.entry in
    let reply = c.reply_to-reply.result in
    let count = c.refused_count-refused.result in
    let before = g.S.StoreWriter.written c.args.writer.now in
    let after = g.S.StoreWriter.written c.reply_to-reply.new.writer in
    let P : List Entry → Type 0 = λ l. AreReplied g.N.StoreName.limit g.S.StoreWriter.most_held before l c.one.result count after in
    let Q : List ReplyValue → Type 0 = λ r. AreReplied g.N.StoreName.limit g.S.StoreWriter.most_held before (entry ∷ []) r count after in
    subst P (sym (ap (λ (l : List Entry). take 1 l) c.in-Some.ensures.items))
    (subst Q (sym c.one.ensures) (replied_one _ before entry reply count after e.done e.origin (inl e.put) c.refused_count-refused.ensures))
