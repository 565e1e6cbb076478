-- One connection from an input to an output.
use Rattle.std.specs.Prelude.{◌≡◌, ◌≤◌, ℕ, Bool, true, false, Option, None, Result, Ok, Err, List, length}
use Rattle.std.specs.Io.KnownBytes.{append_known}
use Rattle.rs_program_pipe.specs.Lines.{read_bytes, written_bytes}
use Rattle.rs_message.specs.declared.entry.Operation.{Operation}
use Rattle.rs_session.specs.Points.{Point}
use Rattle.rs_session.specs.State.{State}
use Rattle.rs_server.specs.Conversation.{GateView, IsConnection, Transfer}
use Rattle.rs_server.specs.declared.connection.Served.{Served}
use Rattle.rs_program_pipe.specs.declared.piping.PipeFault.{PipeFault}
use Rattle.rs_server.specs.declared.writing.ServeFault.{ServeFault}
use Rattle.rs_program_pipe.specs.Faults.{pipe_fault}

-- What the input stands for, if it is given: its bytes, or with hex those of its lines, up to the first that is not hex.
abbrev pub input_bytes : Bool → Option (List ℕ) → Option (List ℕ)
input_bytes true text = read_bytes text
input_bytes false bytes = bytes

-- What the output stands for, if it is given: its bytes, or with hex those of its lines, if all are hex.
abbrev pub output_bytes : Bool → Option (List ℕ) → Option (List ℕ)
output_bytes true text = written_bytes text
output_bytes false bytes = bytes

-- What is left of the input. With hex, a part of it was read and is lost.
abbrev pub IsLeft : Bool → Option (List ℕ) → Option (List ℕ) → Type 0
IsLeft true text left = Unit {0}
IsLeft false bytes left = left ≡ bytes

-- What the output stands for at the end. With hex, the second digit of the last byte may be missing.
abbrev pub IsOutput : Bool → Option (List ℕ) → Option (List ℕ) → Type 0
IsOutput true text output = (due : List ℕ) × (length due ≤ 1) × (output ≡ written_bytes (append_known text due))
IsOutput false bytes output = output ≡ bytes

-- a line is named only if lines of hex digits are read
abbrev pub if_hex : Bool → Option ℕ → Option ℕ
if_hex true line = line
if_hex false line = None

-- what is answered if this line, if any, was not hex
abbrev pub piped : Result Served ServeFault → Option ℕ → Result Served PipeFault
piped (Ok served) line = Ok served
piped (Err fault) line = Err (pipe_fault fault line)

-- There was a connection over what the input and the output stand for. Its outcome was answered so.
pub record IsPiped (hex : Bool) (from : Point State) (first : List Operation) (most : ℕ) (gate : GateView) (transfer : Transfer)
    (answered : Result Served PipeFault) : Type 0 where
  pub outcome : Result Served ServeFault
  pub left : Option (List ℕ)
  pub output : Option (List ℕ)
  pub line : Option ℕ
  pub connection : IsConnection from first most gate
      (record {
        unread = input_bytes hex transfer.unread;
        rest = left;
        written = output_bytes hex transfer.written;
        more = output;
        told = transfer.told;
      }) outcome
  pub left_is : IsLeft hex transfer.rest left
  pub output_is : IsOutput hex transfer.more output
  pub answer : answered ≡ piped outcome (if_hex hex line)
