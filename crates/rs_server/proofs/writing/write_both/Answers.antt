use Rattle.std.specs.Prelude.{Err}
use Rattle.rs_server.proofs.Written.{writes_after, writes_less}
use Rattle.rs_server.proofs.writing.write_both.Goals as goal

pub returns-in-Err-clause-bytes : goal.returns-in-Err-clause-bytes
returns-in-Err-clause-bytes g c = writes_less {T = Unit {0}} (Err c.in-Err.fault) _ _ _ _ _ _ c.in-Err.ensures.bytes c.in-Err.ensures.cause

pub returns-in-Ok-clause-bytes : goal.returns-in-Ok-clause-bytes
returns-in-Ok-clause-bytes g c = writes_after c.write_bytes-in-Ok.result _ _ _ _ _ c.in-Ok.ensures.bytes c.write_bytes-in-Ok.ensures.bytes
