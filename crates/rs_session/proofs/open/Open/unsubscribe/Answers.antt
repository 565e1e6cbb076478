use Rattle.std.proofs.Common.{◌≡◌, ◌∙◌, ◌+◌, ◌++◌, ◌∷◌, [], take, sym, ap, arith, ℕ, List}
use Rattle.std.proofs.lemmas.List.{take_more, take_all}
use Rattle.rs_packet.specs.Values.{Filter, UnsubscribeValue}
use Rattle.rs_session.specs.declared.open.Open.{Open}
use Rattle.rs_session.specs.Points.{point_at}
use Rattle.rs_session.specs.Table.{removal_codes, without_all}
use Rattle.rs_session.proofs.Rows.{not_unsubscribed, unsubscribed, removed_code, removed_all, same_codes}
use Rattle.rs_session.proofs.open.Open.unsubscribe.Goals as goal

pub returns-in_default : goal.returns-in_default
returns-in_default c = λ now mark list. not_unsubscribed c.args.u now (point_at _ list mark)

pub loop-filter-preserved : goal.loop-filter-preserved
loop-filter-preserved c =
    let items = c.deref-filter-items.result.now in
    let i = c.loop-filter.filter-index in
    let more : take (i + 1) items ≡ take i items ++ c.filter-item.result ∷ [] =
    take_more items i c.filter-item.result c.loop-filter-test.true ∙ ap (λ (a : Filter). take i items ++ a ∷ []) (sym c.filter-item.is) in
    record {
      coded = removed_code (take i items) _ c.filter-item.result c.args.self.now c.loop-filter.self c.loop-filter.codes.items _ c.remove-reason.result more c.loop-filter.invariant.coded c.loop-filter.invariant.removed c.remove-reason.ensures.code (c.push_reserved.ensures.items ∙ ap (λ (n : ℕ). c.loop-filter.codes.items ++ n ∷ []) c.code.ensures);
      removed = removed_all (take i items) _ c.filter-item.result c.args.self.now c.loop-filter.self _ more c.loop-filter.invariant.removed c.remove-reason.ensures.removed;
      count = omega arith;
      capacity = omega arith;
    }

pub returns : goal.returns
returns c = λ now mark list.
    let items = c.deref-filter-items.result.now in
    let all : take c.loop-filter.filter-index items ≡ c.args.u.filters =
    take_all c.loop-filter.filter-index items c.loop-filter-test.false ∙ (c.deref-filter-items.ensures.value ∙ ap (λ (v : UnsubscribeValue). v.filters) c.u.view_is) in
    unsubscribed c.args.u _ now (point_at c.args.self.now list mark) _
    (c.new.ensures ∙ same_codes _ _ _ _ (ap (λ (v : UnsubscribeValue). v.id) c.u.view_is) (c.loop-filter.invariant.coded ∙ ap (λ (l : List Filter). removal_codes l c.args.self.now.subscriptions) all))
    (c.loop-filter.invariant.removed ∙ ap (λ (l : List Filter). let o : Open = record c.args.self.now { subscriptions = without_all l c.args.self.now.subscriptions } in o) all)
