use Rattle.std.proofs.Common.{rules, ℕ, ◌∙◌, List, length, sym, ap, subst, length-append, arith}
use Rattle.crossbeam_channel.specs.Claims.{view as known_by}
use Rattle.rs_message.specs.declared.entry.Entry.{Entry}
use Rattle.rs_intake_queue.specs.Changes.{AreOf, AreOfLine}
use Rattle.rs_intake_queue.specs.QueueRule.{AreAbove}
use Rattle.rs_intake_queue.specs.declared.rule.PassView.{PassView}
use Rattle.rs_intake_queue.proofs.Queues.{line_more}
use Rattle.rs_intake_line.proofs.line.LineSender.send_changes.Goals as goal

pub invariant_of-self : goal.invariant_of-self
invariant_of-self g c =
    let line = c.self.invariant.0 in
    let before = (known_by c.self.inside.pass).entries in
    let step = c.in-Ok.ensures.sent in
    let count = c.len-count.ensures.len in
    let more = length-append before c.args.changes in
    let all = ap (λ (v : PassView). length v.entries) step in
    let number = line.number in
    let P : ℕ → Type 0 = λ place. AreOf place c.args.changes in
    let Q : List Entry → Type 0 = λ sent. AreAbove sent c.args.changes in
    let R : List Entry → Type 0 = λ sent. AreOfLine c.self.inside.place sent in
    let of = subst P (sym (ap (λ l. l.place) c.self.view_is)) c.requires.place in
    let above = subst Q (sym (ap (λ l. l.sent) c.self.view_is)) c.requires.above in
    let sent = ap (λ (v : PassView). v.entries) step in (
      record {
        queue = line.queue;
        is_of_queue = search rules;
        sends = ap (λ (v : PassView). v.sends) step ∙ line.sends;
        takes = ap (λ (v : PassView). v.takes) step ∙ line.takes;
        place_is = ap (λ (v : PassView). v.from) step ∙ line.place_is;
        number = omega (arith, number, count, more, all);
        from = line.from;
        to = line.to;
        few = line.few;
      },
      ap (λ (v : PassView). v.ends) step ∙ search rules,
      subst R (sym sent) (line_more c.self.inside.place before c.args.changes of above c.self.invariant.2),
    )
