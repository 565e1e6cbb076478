-- No line stopped the reader, and the same is coming.
use Rattle.std.proofs.Common.{◌≡◌, [], false, None}
use Rattle.rs_program_pipe.specs.Coming.{IsAllOver, KeepsOutlook}
use Rattle.rs_program_pipe.specs.Views.{outlook}
use Rattle.rs_program_pipe.proofs.reader.HexReader.fill.Given as goal

abbrev pub invariant-lines : goal.invariant-lines
invariant-lines g l = record {
  ongoing : l.self.lines.not_hex ≡ None;
  keeps : KeepsOutlook (outlook g.R.Read.remaining l.initial.self) (outlook g.R.Read.remaining l.self);
  end : l.more ≡ false → l.self.lines.bytes.items ≡ [] → IsAllOver (outlook g.R.Read.remaining l.self);
}
