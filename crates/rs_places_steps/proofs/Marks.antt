-- Marks along a run.
use Rattle.std.proofs.Common.{◌≡◌, List, [], ◌∷◌, ◌++◌, refl, sym, subst, append-nil}
use Rattle.rs_session.specs.Stored.{MarkGrows, point_after}
use Rattle.rs_session.specs.Points.{Point}
use Rattle.rs_session.specs.Run.{Run, Exchange}
use Rattle.rs_session.specs.State.{State}
use Rattle.rs_server.proofs.Keeping.{run_marks}

run_front : (from to : Point State) (before after : List Exchange) → Run from (before ++ after) to → Run from before (point_after from before)
run_front from to [] after run = refl
run_front from to (exchange ∷ exchanges) after (here, run) = (here, run_front exchange.to to exchanges after run)

run_behind : (from to : Point State) (before after : List Exchange) → Run from (before ++ after) to → Run (point_after from before) after to
run_behind from to [] after run = run
run_behind from to (exchange ∷ exchanges) after (here, run) = run_behind exchange.to to exchanges after run

after_both : (from : Point State) (before between : List Exchange) → point_after (point_after from before) between ≡ point_after from (before ++ between)
after_both from [] between = refl
after_both from (exchange ∷ exchanges) between = after_both exchange.to exchanges between

run_last : (from to : Point State) (exchanges : List Exchange) → Run from exchanges to → to ≡ point_after from exchanges
run_last from to [] run = run
run_last from to (exchange ∷ exchanges) (here, run) = run_last exchange.to to exchanges run

pub marks_between : (from to : Point State) (exchanges before between after : List Exchange) → Run from exchanges to → exchanges ≡ before ++ (between ++ after)
    → MarkGrows (point_after from before).mark (point_after from (before ++ between)).mark
marks_between from to exchanges before between after run whole =
    let mid = point_after from before in
    let P : List Exchange → Type 0 = λ ts. Run from ts to in
    let Q : Point State → Type 0 = λ point. MarkGrows mid.mark point.mark in
    let rest = run_behind from to before (between ++ after) (subst P whole run) in
    subst Q (after_both from before between) (run_marks mid (point_after mid between) between (run_front mid to between after rest))

-- from the first to the last
pub marks_through : (from to : Point State) (exchanges : List Exchange)
    → ((before between after : List Exchange) → exchanges ≡ before ++ (between ++ after) → MarkGrows (point_after from before).mark (point_after from (before ++ between)).mark)
    → Run from exchanges to → MarkGrows from.mark to.mark
marks_through from to exchanges marks run =
    let P : Point State → Type 0 = λ point. MarkGrows from.mark point.mark in
    subst P (sym (run_last from to exchanges run)) (marks [] exchanges [] (sym (append-nil exchanges)))
