use Rattle.std.proofs.Common.{refl}
use Rattle.rs_journal.proofs.StandsLemmas.{goes_on_same, goes_on_trans, holds_pushed}
use Rattle.rs_journal.proofs.pages.stream.PageStream.push_part.Goals as goal

pub returns-in_err-make_room-clause-goes_on : goal.returns-in_err-make_room-clause-goes_on
returns-in_err-make_room-clause-goes_on g c = c.make_room.ensures.goes_on

pub returns-in_err-extend_from_slice-clause-goes_on : goal.returns-in_err-extend_from_slice-clause-goes_on
returns-in_err-extend_from_slice-clause-goes_on g c = goes_on_trans c.args.self.now c.make_room.new.self _ c.make_room.ensures.goes_on (goes_on_same c.make_room.new.self _ refl refl)

pub returns-clause-goes_on : goal.returns-clause-goes_on
returns-clause-goes_on g c = goes_on_trans c.args.self.now c.make_room.new.self _ c.make_room.ensures.goes_on (goes_on_same c.make_room.new.self _ refl refl)

pub returns-clause-pushed : goal.returns-clause-pushed
returns-clause-pushed g c = λ standing seen holds.
    holds_pushed c.make_room.new.self _ _ standing seen refl refl refl c.in_ok-extend_from_slice.ensures.items (c.in_ok-make_room.ensures.holds standing seen holds)
