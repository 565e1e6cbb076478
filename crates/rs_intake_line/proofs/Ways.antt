-- Each step keeps the rule of a way back.
use Rattle.std.proofs.Common.{◌≡◌, ◌≢◌, ℕ, zero, suc, true, false, List, [], ◌∷◌, ◌++◌, length, set, refl, sym, ap, subst, ◌∙◌, ⊎_elim, append_assoc}
use Rattle.std.proofs.lemmas.Grind.{flat_map-append}
use Rattle.std.proofs.lemmas.List.{append-nil}
use mathlib.Core.Option.{some, some-injective, some-ne-none}
use mathlib.Core.List.{IsPrefix}
use lib.ListN.{get_elem?}
use Rattle.crossbeam_channel.specs.Fifo.{Pushes, Pops, Forks}
use Rattle.atomic_table.proofs.Lists.{at_set}
use Rattle.rs_intake_line.specs.Done.{ReplyValue}
use Rattle.rs_intake_line.specs.ReplyRule.{Counts, FitsWay, Replies, WayView, both_ends, joined, receiving_end, replies_more, sending_end}
use Rattle.rs_intake_queue.proofs.Queues.{clash, snoc_at}

-- the replies of one message more
joined_more : (items : List (List ReplyValue)) (x : List ReplyValue) → joined (items ++ x ∷ []) ≡ joined items ++ x
joined_more items x = flat_map-append (λ (l : List ReplyValue). l) items (x ∷ []) ∙ ap (λ l. joined items ++ l) (append-nil x)

pub sends_reply : (n pass : ℕ) (v : WayView) (x : List ReplyValue) → v.sends ≡ true → v.receives ≡ false → Pushes Replies n pass v x (Counts v x)
sends_reply n pass v x sends deaf items views capacity h at =
    let received = h.2 in
    let mine = (h.3 pass v at).0 sends in (
      replies_more v x,
      (
        h.0,
        h.1,
        received,
        (λ j u e. ⊎_elim
            (λ (t : (j ≡ pass) × (replies_more v x ≡ u)).
            let P : WayView → Type 0 = λ u. FitsWay h.0 h.1 (received ++ joined (items ++ x ∷ [])) received j u in
            subst P t.1 (
              (λ s. (t.0 ∙ mine.0, ap (λ l. l ++ x) mine.1 ∙ (append_assoc received (joined items) x ∙ ap (λ l. received ++ l) (sym (joined_more items x))))),
              (λ s. absurd (clash deaf s)),
            ))
            (λ (t : (j ≢ pass) × (get_elem? views j ≡ some u)).
            let f = h.3 j u t.1 in ((λ s. absurd (t.0 ((f.0 s).0 ∙ sym mine.0))), f.1))
            (at_set views pass j (replies_more v x) u e)),
      ),
      refl,
    )

pub receives_reply : (pass : ℕ) (v : WayView) → v.receives ≡ true → v.sends ≡ false → Pops Replies pass v (Counts v)
receives_reply pass v receives quiet x items views h at =
    let received = h.2 in
    let mine = (h.3 pass v at).1 receives in (
      replies_more v x,
      (
        h.0,
        h.1,
        received ++ x,
        (λ j u e. ⊎_elim
            (λ (t : (j ≡ pass) × (replies_more v x ≡ u)).
            let P : WayView → Type 0 = λ u. FitsWay h.0 h.1 ((received ++ x) ++ joined items) (received ++ x) j u in
            subst P t.1 (
              (λ s. absurd (clash quiet s)),
              (λ s. (t.0 ∙ mine.0, ap (λ l. l ++ x) mine.1)),
            ))
            (λ (t : (j ≢ pass) × (get_elem? views j ≡ some u)).
            let f = h.3 j u t.1 in (
              (λ s. let g = f.0 s in (g.0, g.1 ∙ sym (append_assoc received x (joined items)))),
              (λ s. absurd (t.0 ((f.1 s).0 ∙ sym mine.0))),
            ))
            (at_set views pass j (replies_more v x) u e)),
      ),
      refl,
    )

pub cuts_way : (pass : ℕ) (v : WayView) → v.sends ≡ true → v.receives ≡ true → Forks Replies pass v (sending_end v) (receiving_end v)
cuts_way pass v sends receives items views h at =
    let received = h.2 in
    let out = (h.3 pass v at).0 sends in
    let back = (h.3 pass v at).1 receives in
    let next = length (set views pass (sending_end v)) in (
      h.0,
      next,
      received,
      (λ j u e. let P : WayView → Type 0 = λ u. FitsWay h.0 next (received ++ joined items) received j u in ⊎_elim
          (λ (t : get_elem? (set views pass (sending_end v)) j ≡ some u). ⊎_elim
          (λ (t : (j ≡ pass) × (sending_end v ≡ u)). subst P t.1 ((λ s. (t.0 ∙ out.0, out.1)), (λ s. absurd (clash refl s))))
          (λ (t : (j ≢ pass) × (get_elem? views j ≡ some u)). let f = h.3 j u t.1 in ((λ s. f.0 s), (λ s. absurd (t.0 ((f.1 s).0 ∙ sym back.0)))))
          (at_set views pass j (sending_end v) u t))
          (λ (t : (j ≡ next) × (receiving_end v ≡ u)). subst P t.1 ((λ s. absurd (clash refl s)), (λ s. (t.0, back.1))))
          (snoc_at (set views pass (sending_end v)) (receiving_end v) u j e)),
    )

way_alone : (j : ℕ) (u : WayView) → get_elem? (both_ends ∷ []) j ≡ some u → (0 ≡ j) × (both_ends ≡ u)
way_alone zero u e = (refl, some-injective both_ends u e)
way_alone (suc j) u e = absurd (some-ne-none u (sym e))

-- an empty way back before it is cut
pub starts_way : Replies [] (both_ends ∷ [])
starts_way = (
  0,
  0,
  [],
  (λ j u e. let t = way_alone j u e in let P : WayView → Type 0 = λ u. FitsWay 0 0 [] [] j u in subst P t.1 ((λ s. (sym t.0, refl)), (λ s. (sym t.0, refl)))),
)

-- what a line received is a prefix of what the writer's end sent
pub replies_in_order : (items : List (List ReplyValue)) (views : List WayView) (i j : ℕ) (writer line : WayView) → Replies items views
    → get_elem? views i ≡ some writer → writer.sends ≡ true → get_elem? views j ≡ some line → line.receives ≡ true
    → IsPrefix line.replies writer.replies
replies_in_order items views i j writer line h at_writer sends at_line receives =
    (joined items, ap (λ l. l ++ joined items) ((h.3 j line at_line).1 receives).1 ∙ sym ((h.3 i writer at_writer).0 sends).1)
