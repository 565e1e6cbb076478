use Rattle.std.proofs.Common.{arith}
use Rattle.rs_journal.proofs.FormLemmas.{head_is}
use Rattle.rs_journal.proofs.pages.form.form_head.Goals as goal

pub returns-clause-form : goal.returns-clause-form
returns-clause-form c =
    head_is _ _ _ _ _ _ _ _ _ _ c.clear.ensures.items c.in_ok-extend_from_slice.ensures.items c.in_ok-push.ensures.items c.in_ok-extend_from_slice-2.ensures.items c.in_ok-extend_from_slice-3.ensures.items
    (omega (arith, c.clear.ensures.len, c.in_ok-extend_from_slice.ensures.len, c.in_ok-push.ensures.len, c.in_ok-extend_from_slice-2.ensures.len, c.in_ok-extend_from_slice-3.ensures.len))
    c.in_ok-resize.ensures.items c.to_be_bytes.ensures c.to_be_bytes-2.ensures
