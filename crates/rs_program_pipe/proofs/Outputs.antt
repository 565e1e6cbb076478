-- Lemmas on the output of a connection over lines of hex digits.
use Rattle.std.proofs.Common.{◌≡◌, ◌≤◌, ℕ, List, Option, None, Some, length, sym, ap, arith}
use Rattle.std.specs.Io.KnownBytes.{append_known}
use Rattle.rs_program_pipe.specs.Lines.{written_bytes}
use Rattle.rs_program_pipe.specs.Views.{due_digits, hex_contents, output_of}
use Rattle.rs_program_pipe.specs.declared.writer.HexWriter.{HexWriter}

-- at most one digit is due
pub one_digit : (due : Option ℕ) → length (due_digits due) ≤ 1
one_digit None = omega arith
one_digit (Some digit) = omega arith

-- what a writer of lines holds stands in its output, but for the digit that is due
pub same_output : {W : Type 0} (contents : W → Option (List ℕ)) (writer : HexWriter W) (output : W) → output ≡ output_of writer
    → hex_contents contents writer ≡ written_bytes (append_known (contents output) (due_digits writer.due))
same_output contents writer output e = ap (λ w. written_bytes (append_known (contents w) (due_digits writer.due))) (sym e)
