use Rattle.std.proofs.Common.{◌≡◌, ◌++◌, take}
use Rattle.std.specs.String.{string_bytes}
use Rattle.rs_metrics.specs.Texts.{rows_text}
use Rattle.rs_metrics.proofs.text.write_rows.Given as goal

abbrev pub invariant-loop-row : goal.invariant-loop-row
invariant-loop-row l = string_bytes l.text ≡ string_bytes l.fn.text ++ rows_text l.snapshot l.name l.kind (take l.row-index l.rows)
