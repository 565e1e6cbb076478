-- The faults of one connection from an input to an output, and their exit statuses.
use Rattle.std.specs.Prelude.{ℕ, Option, Some, None}
use Rattle.rs_server.specs.declared.writing.ServeFault.{ServeFault}
use Rattle.rs_server.specs.declared.writing.ServeFault.TheVariants as serve
use Rattle.rs_program_pipe.specs.declared.piping.PipeFault.{PipeFault}
use Rattle.rs_program_pipe.specs.declared.piping.PipeFault.TheVariants.{Read, Write, NoMemory, NotHex}

-- a read that failed for a line that is not hex is told by that line
abbrev pub pipe_fault : ServeFault → Option ℕ → PipeFault
pipe_fault serve.Read (Some line) = NotHex line
pipe_fault serve.Read None = Read
pipe_fault serve.Write not_hex = Write
pipe_fault serve.NoMemory not_hex = NoMemory

abbrev pub pipe_status : PipeFault → ℕ
pipe_status Read = 1
pipe_status Write = 1
pipe_status NoMemory = 1
pipe_status (NotHex line) = 2
