use Rattle.std.proofs.Common.{◌∙◌, map, sym}
use Rattle.std.proofs.lemmas.List.{length-map}
use Rattle.rs_version.specs.First.{first_of}
use Rattle.tests_places.proofs.Answered.{connections_known, if_ok_more, run_answered}
use Rattle.tests_places.proofs.places.known.answered.Goals as goal

pub returns : goal.returns
returns g c = if_ok_more c.run_store.result _ _
    (λ end run. run_answered 1 c.args.blank.limit c.args.queue.places (first_of c.args.given.items) (map g.T.Turn.connections c.args.turns.items) (map g.T.Turn.connections end.turns.items) end.version end.changes end.cause (length-map c.args.turns.items g.T.Turn.connections ∙ sym c.requires.turns) (connections_known g.T.Turn.connections c.args.turns.items c.requires.known) run)
    c.run_store.ensures
