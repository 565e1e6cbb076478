use Rattle.std.proofs.Common.{Result, Ok, Err, OnOk}
use Rattle.rs_journal.proofs.pages.stream.put_page.Goals as goal

on_ok : {E : Type 0} (r : Result (Unit {0}) E) (P A B C : Type 0) → OnOk r A → (A → P → B → C) → OnOk r (P → B → C)
on_ok (Ok x) P A B C h f = f h
on_ok (Err e) P A B C h f = tt

pub returns-then-at-page_count-clause-put : goal.returns-then-at-page_count-clause-put
returns-then-at-page_count-clause-put g c = on_ok c.write.result _ _ _ _ c.write.ensures.ok (λ here on le. record { here = here; others = c.write.ensures.others on })
