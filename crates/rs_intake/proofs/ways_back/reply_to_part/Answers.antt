use Rattle.std.proofs.Common.{◌≡◌, ◌-◌, List, length, take, sym, subst, arith}
use Rattle.std.proofs.lemmas.List.{take_all}
use Rattle.rs_message.specs.declared.entry.Entry.{Entry}
use Rattle.rs_version.specs.Writer.{IsReadyFor}
use Rattle.rs_intake.proofs.ways_back.reply_to_part.Goals as goal

pub returns-clause-ready : goal.returns-clause-ready
returns-clause-ready g c =
    let e = c.reply_to_first-replies.ensures in
    let rest = c.args.rest.now.items in
    let left = c.reply_to_first-replies.new.rest.items in
    let count = c.count-count.result in
    let sum = e.count.0 in
    let whole : take (length rest) rest ≡ rest = take_all (length rest) rest (omega arith) in
    let behind : take (length rest - count) left ≡ left = take_all (length rest - count) left (omega (arith, sum)) in
    let P : List Entry → Type 0 = λ l. IsReadyFor (g.S.StoreWriter.ready c.args.writer.now) l in
    let Q : List Entry → Type 0 = λ l. IsReadyFor (g.S.StoreWriter.ready c.reply_to_first-replies.new.writer) l in
    subst Q behind (e.ready (length rest) (omega (arith, sum)) (subst P (sym whole) c.requires.ready))
