-- What a reader and a writer of lines of hex digits show.
use Rattle.std.specs.Prelude.{ℕ, List, [], ◌∷◌, ◌++◌, Option, None, Some, option_map}
use Rattle.std.specs.Io.KnownBytes.{append_known}
use Rattle.rs_program_pipe.specs.Lines.{written_bytes}
use Rattle.rs_program_pipe.specs.Coming.{Coming, Outlook, coming, bytes_coming}
use Rattle.rs_program_pipe.specs.declared.line_buffer.LineBuffer.{LineBuffer}
use Rattle.rs_program_pipe.specs.declared.reader.HexReader.{HexReader}
use Rattle.rs_program_pipe.specs.declared.writer.HexWriter.{HexWriter}

-- ---- a reader

-- what is coming, if this text follows
abbrev pub coming_of : LineBuffer → List ℕ → Coming
coming_of it more = coming it.not_hex it.bytes.items it.line (it.text.items ++ more)

-- what the lines are read from
abbrev pub input_of : {R : Type 0} → HexReader R → R
input_of it = it.input

-- the line that stopped the reader
abbrev pub not_hex_of : {R : Type 0} → HexReader R → Option ℕ
not_hex_of it = it.lines.not_hex

module _ {R : Type 0} (remaining : R → Option (List ℕ)) where
  -- what is coming, if the text of the input is known
  abbrev pub outlook : HexReader R → Outlook
  outlook it = option_map (coming_of it.lines) (remaining it.input)

  -- the bytes that are coming
  abbrev pub hex_remaining : HexReader R → Option (List ℕ)
  hex_remaining it = bytes_coming (outlook it)

-- ---- a writer

-- what the lines are written to
abbrev pub output_of : {W : Type 0} → HexWriter W → W
output_of it = it.output

-- the digit that is due, if one is
abbrev pub due_digits : Option ℕ → List ℕ
due_digits None = []
due_digits (Some digit) = digit ∷ []

module _ {W : Type 0} (contents : W → Option (List ℕ)) where
  -- the text of the output, and the digit that is due
  abbrev pub text_of : HexWriter W → Option (List ℕ)
  text_of it = append_known (contents it.output) (due_digits it.due)

  -- the bytes that the text stands for, if all of its lines are hex
  abbrev pub hex_contents : HexWriter W → Option (List ℕ)
  hex_contents it = written_bytes (text_of it)
