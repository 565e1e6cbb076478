use Rattle.std.proofs.Common.{List, ◌<◌, ◌≤◌, ◌++◌, arith, length, subst, take}
use Rattle.std.specs.List.{All}
use Rattle.std.proofs.lemmas.List.{take_all}
use Rattle.rs_journal_record.specs.Records.{IsOperation}
use Rattle.rs_message.specs.declared.entry.Entry.{Entry}
use Rattle.rs_message.specs.declared.entry.Operation.{Operation}
use Rattle.rs_journal.specs.Journals.{Holds}
use Rattle.rs_journal.specs.Restarting.{operations_of}
use Rattle.rs_journal_writer.proofs.Storing.{formed_more, pushed_more}
use Rattle.rs_journal_writer.proofs.keeping.push_all.Goals as goal

pub loop-index-preserved : goal.loop-index-preserved
loop-index-preserved g c =
    let entries = c.args.entries.now.items in
    let i = c.loop-index.index in
    let there : i < length entries = omega arith in (
      λ standing seen holds.
          subst (λ (l : List Operation). Holds c.push.new.self standing l) (pushed_more seen entries i c.in-Some.entry.now there c.in-Some.ensures.lookup)
          (c.in-Ok.ensures.pushed standing (seen ++ operations_of (take i entries)) (c.loop-index.invariant.0 standing seen holds)),
      formed_more entries i c.in-Some.entry.now there c.in-Some.ensures.lookup c.loop-index.invariant.1 c.in-Ok.ensures.fits,
    )

pub returns-clause-pushed : goal.returns-clause-pushed
returns-clause-pushed g c = λ standing seen holds.
    let entries = c.args.entries.now.items in
    let all : length entries ≤ c.loop-index.index = omega arith in
    subst (λ (l : List Entry). Holds c.loop-index.journal standing (seen ++ operations_of l)) (take_all c.loop-index.index entries all)
    (c.loop-index.invariant.0 standing seen holds)

pub returns-clause-formed : goal.returns-clause-formed
returns-clause-formed g c =
    let entries = c.args.entries.now.items in
    let all : length entries ≤ c.loop-index.index = omega arith in
    subst (λ (l : List Entry). All IsOperation (operations_of l)) (take_all c.loop-index.index entries all) c.loop-index.invariant.1
