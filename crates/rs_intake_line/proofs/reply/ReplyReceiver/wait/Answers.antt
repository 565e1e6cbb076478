use Rattle.std.proofs.Common.{◌++◌, ap, sym, ◌∙◌}
use Rattle.std.proofs.lemmas.List.{append-nil}
use Rattle.rs_intake_line.proofs.Ahead.{taken_on}
use Rattle.rs_intake_line.proofs.reply.ReplyReceiver.wait.Goals as goal

pub returns-in-Some-take-clause-came : goal.returns-in-Some-take-clause-came
returns-in-Some-take-clause-came g c =
    let none = c.loop.invariant in
    let came = c.wait_message.new.self.came in
    let taken = taken_on came c.take-in-loop.new.self.came c.wait_message.new.self.heard c.take-in-loop.new.self.heard c.take-in-loop.result c.take-in-loop.ensures in
    let heard = c.args.self.now.heard in
    (came, taken ∙ ap (λ l. l ++ came) (c.wait_message.ensures.heard ∙ (none.2 ∙ (sym (append-nil heard) ∙ ap (λ l. heard ++ l) (sym none.0)))))
