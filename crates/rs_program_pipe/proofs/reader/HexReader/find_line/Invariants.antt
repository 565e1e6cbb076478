-- No line feed was met in what was scanned, and the same is coming.
use Rattle.std.proofs.Common.{◌≡◌, ◌≤◌, false, length, take}
use Rattle.rs_program_pipe.specs.Lines.{has_line_feed}
use Rattle.rs_program_pipe.specs.Coming.{KeepsOutlook}
use Rattle.rs_program_pipe.specs.Views.{outlook}
use Rattle.rs_program_pipe.proofs.reader.HexReader.find_line.Given as goal

abbrev pub invariant-text : goal.invariant-text
invariant-text g l = record {
  within : l.scanned ≤ length l.self.lines.text.items;
  clean : has_line_feed (take l.scanned l.self.lines.text.items) ≡ false;
  same : l.self.lines ≡ record l.initial.self.lines { text = l.self.lines.text };
  keeps : KeepsOutlook (outlook g.R.Read.remaining l.initial.self) (outlook g.R.Read.remaining l.self);
}
