use Rattle.std.proofs.Common.{◌≡◌, ◌++◌, take}
use Rattle.std.specs.String.{string_bytes}
use Rattle.rs_metrics.specs.Texts.{families_text}
use Rattle.rs_metrics.proofs.text.write_text.Given as goal

abbrev pub invariant-loop-family : goal.invariant-loop-family
invariant-loop-family l = string_bytes l.text ≡ string_bytes l.fn.text ++ families_text l.snapshot (take l.family-index l.families)
