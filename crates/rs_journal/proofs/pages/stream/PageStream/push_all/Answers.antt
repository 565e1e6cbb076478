use Rattle.std.proofs.Common.{refl, ◌++◌, ℕ, List, take, sym, subst, arith}
use Rattle.std.proofs.lemmas.List.{append-nil, take_all}
use Rattle.rs_journal.specs.Streams.{Holds}
use Rattle.rs_journal.proofs.StandsLemmas.{closed_same, goes_on_same, goes_on_trans}
use Rattle.rs_journal.proofs.ListLemmas.{front_more, within_more}
use Rattle.rs_journal.proofs.pages.stream.PageStream.push_all.Goals as goal

pub loop-from-init : goal.loop-from-init
loop-from-init g c = record {
  within = omega arith;
  goes_on = goes_on_same c.args.self.now c.args.self.now refl refl;
  pushed = λ standing seen holds. subst (λ (s : List ℕ). Holds c.args.self.now standing s) (sym (append-nil seen)) holds;
}

pub returns-in_err-pushed-clause-goes_on : goal.returns-in_err-pushed-clause-goes_on
returns-in_err-pushed-clause-goes_on g c = goes_on_trans c.args.self.now c.loop-from.self c.push_part.new.self c.loop-from.invariant.goes_on c.push_part.ensures.goes_on

pub returns-in_err-check_open-clause-goes_on : goal.returns-in_err-check_open-clause-goes_on
returns-in_err-check_open-clause-goes_on g c = goes_on_same c.args.self.now _ refl refl

pub returns-clause-open : goal.returns-clause-open
returns-clause-open g c = c.in_ok-check_open.ensures

pub loop-from-preserved : goal.loop-from-preserved
loop-from-preserved g c =
    let from = c.loop-from.from in
    let bytes = c.args.bytes.now in
    let inv = c.loop-from.invariant in
    record {
      within = within_more bytes from c.in_ok-pushed.pushed inv.within c.in_ok-pushed.ensures.some.1;
      goes_on = goes_on_trans c.args.self.now c.loop-from.self c.push_part.new.self inv.goes_on c.push_part.ensures.goes_on;
      pushed = λ standing seen holds.
          subst (λ (s : List ℕ). Holds c.push_part.new.self standing s) (front_more seen bytes from c.in_ok-pushed.pushed)
          (c.in_ok-pushed.ensures.pushed standing (seen ++ take from bytes) (inv.pushed standing seen holds));
    }

pub returns-clause-goes_on : goal.returns-clause-goes_on
returns-clause-goes_on g c = c.loop-from.invariant.goes_on

pub returns-clause-pushed : goal.returns-clause-pushed
returns-clause-pushed g c = λ standing seen holds.
    subst (λ (s : List ℕ). Holds c.loop-from.self standing (seen ++ s)) (take_all c.loop-from.from c.args.bytes.now c.loop-from-test.false) (c.loop-from.invariant.pushed standing seen holds)

pub returns-in_err-check_open-clause-closed : goal.returns-in_err-check_open-clause-closed
returns-in_err-check_open-clause-closed g c = closed_same c.args.self.now _ refl

pub returns-in_err-pushed-clause-closed : goal.returns-in_err-pushed-clause-closed
returns-in_err-pushed-clause-closed g c = λ shut. absurd (shut c.in_ok-check_open.ensures)

pub returns-clause-closed : goal.returns-clause-closed
returns-clause-closed g c = λ shut. absurd (shut c.in_ok-check_open.ensures)
