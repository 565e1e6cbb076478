use Rattle.std.proofs.Common.{sym, ap, inl, inr, ◌∙◌}
use Rattle.std.specs.Result.{result_ok}
use Rattle.rs_program_pipe.specs.Digits.{bytes_of_digits}
use Rattle.rs_program_pipe.proofs.HexDigits.{decoded}
use Rattle.rs_program_pipe.proofs.digits.read_hex.Goals as goal

pub returns-in-Ok-decode-clause-bytes : goal.returns-in-Ok-decode-clause-bytes
returns-in-Ok-decode-clause-bytes c =
    let digits = c.as_slice.ensures.value ∙ c.in-Ok.ensures in
    sym (ap bytes_of_digits digits) ∙ sym (decoded _) ∙ ap result_ok c.in-Ok-decode.ensures.ok

pub returns-clause-not_hex : goal.returns-clause-not_hex
returns-clause-not_hex c = λ e.
    let digits = c.as_slice.ensures.value ∙ c.in-Ok.ensures in
    elim c.in-Err.ensures.err [
      | inl memory ↦ absurd (c.hex_fault_of.ensures e memory)
      | inr bad ↦ sym (ap bytes_of_digits digits) ∙ sym (decoded _) ∙ ap result_ok bad
    ]
