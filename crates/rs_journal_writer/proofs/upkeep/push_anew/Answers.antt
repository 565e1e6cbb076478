use Rattle.std.proofs.Common.{◌++◌, ◌∷◌, ◌∙◌, [], List, sym, ap, subst, append_assoc}
use Rattle.std.specs.List.{All}
use Rattle.std.proofs.lemmas.List.Elements.{All-push}
use Rattle.sqlite_wal.proofs.StateLemmas.{AddsNothing-trans}
use Rattle.rs_journal_record.specs.Records.{IsOperation}
use Rattle.rs_message.specs.declared.entry.Operation.{Operation}
use Rattle.rs_message.specs.declared.entry.Operation.TheVariants.{Set}
use Rattle.rs_message.specs.declared.found.Found.{Found}
use Rattle.rs_journal.specs.Journals.{Holds, may_leave}
use Rattle.rs_journal_writer.specs.State.{sets_for}
use Rattle.rs_journal_writer.proofs.Shortening.{sets_more}
use Rattle.rs_journal_writer.proofs.upkeep.push_anew.Goals as goal

pub loop-message-preserved-in-Ok : goal.loop-message-preserved-in-Ok
loop-message-preserved-in-Ok g c =
    let i = c.loop-message.invariant in
    let done = c.loop-message.yielded in
    let message = c.in-Some.message in
    record {
      crash = AddsNothing-trans 1024 (may_leave c.args.journal.now) (may_leave c.loop-message.journal) (may_leave c.push.new.self) i.crash c.push.ensures.crash;
      formed = subst (λ (l : List Operation). All IsOperation l) (sets_more done message) (All-push IsOperation (sets_for done) (Set message) i.formed c.in-Ok.ensures.fits);
      pushed = λ standing seen holds.
          subst (λ (l : List Operation). Holds c.push.new.self standing l) (sets_more done message) (c.in-Ok.ensures.pushed standing (sets_for done) (i.pushed standing seen holds));
      whole = append_assoc done (message ∷ []) c.next.new.self.rest.items ∙ (ap (λ (l : List Found). done ++ l) (sym c.in-Some.ensures.steps.0) ∙ i.whole);
    }

pub returns-in-Err-push-clause-crash : goal.returns-in-Err-push-clause-crash
returns-in-Err-push-clause-crash g c =
    AddsNothing-trans 1024 (may_leave c.args.journal.now) (may_leave c.loop-message.journal) (may_leave c.push.new.self) c.loop-message.invariant.crash c.push.ensures.crash
