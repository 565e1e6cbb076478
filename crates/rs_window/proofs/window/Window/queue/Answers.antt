use Rattle.std.proofs.Common.{◌≡◌, ◌⊎◌, List, [], length, map, sym, ap, subst, arith, length-append}
use Rattle.std.proofs.lemmas.List.{length-map}
use Rattle.rs_message.specs.declared.found.Found.{Found}
use Rattle.rs_message.specs.declared.qos.Qos.TheVariants.{AtMostOnce}
use Rattle.rs_window.specs.Fields.{NeedNone}
use Rattle.rs_window.specs.State.{State}
use Rattle.rs_window.specs.Waiting.{granted_at}
use Rattle.rs_window.proofs.WaitingLemmas.{still_none}
use Rattle.rs_window.proofs.window.Window.queue.Goals as goal

pub invariant_of-self-2 : goal.invariant_of-self-2
invariant_of-self-2 c =
    let before = c.self.inside.waiting.items in
    let behind = map (granted_at c.args.granted c.args.subscription) c.args.found.items in
    let N : List Found → Type 0 = λ found. (c.args.granted ≡ AtMostOnce) ⊎ (found ≡ []) in
    record {
      within = omega (arith, c.reserve_if.ensures.len, c.self.invariant.within);
      reserved = c.in-Ok.ensures.reserved;
      unneeded = λ is. subst NeedNone (sym c.in-Ok-append.ensures.ok)
          (still_none c.args.granted c.args.subscription before c.args.found.items (c.self.invariant.unneeded (c.need_slots-is_needed.ensures.kept is))
          (subst N c.deref.ensures.value (c.need_slots-is_needed.ensures.none is)));
      few = omega (
        arith,
        ap length c.in-Ok-append.ensures.ok,
        length-append before behind,
        length-map c.args.found.items (granted_at c.args.granted c.args.subscription),
        c.room.ensures,
        ap (λ (s : State). length s.waiting) c.self.view_is,
        c.len.ensures,
        c.if-len-room.false,
      );
    }
