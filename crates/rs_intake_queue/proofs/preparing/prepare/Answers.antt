use Rattle.std.proofs.Common.{List, sym, subst, ◌∙◌, arith}
use Rattle.rs_message.specs.declared.entry.Entry.{Entry}
use Rattle.rs_intake_queue.specs.Changes.{AreOfOneJob}
use Rattle.rs_intake_queue.proofs.Numbered.{numbered_changes, numbered_length}
use Rattle.rs_intake_queue.proofs.preparing.prepare.Goals as goal

pub new-requires : goal.new-requires
new-requires c =
    let P : List Entry → Type 0 = λ l. AreOfOneJob l in
    let os = c.args.operations.items in
    let n = numbered_length c.args.place c.args.serial os in
    let some = c.requires.some in
    subst P (sym (c.in_ok-job.ensures ∙ c.in_ok-entries.ensures.entries)) (numbered_changes c.args.place c.args.serial os c.requires.place.0 (omega (arith, some, n)) c.requires.few c.requires.plain)
