use Rattle.std.proofs.Common.{◌-◌, ◌++◌, ◌≤◌, ℕ, List, length, take}
use Rattle.rs_journal.specs.Streams.{GoesOn, Holds}
use Rattle.rs_journal.proofs.pages.stream.PageStream.push_all.Given as goal

abbrev pub invariant-loop-from : goal.invariant-loop-from
invariant-loop-from g l = record {
  within : l.from ≤ length l.bytes;
  goes_on : GoesOn l.fn.self l.self;
  pushed : (standing seen : List ℕ) → Holds l.fn.self standing seen → Holds l.self standing (seen ++ take l.from l.bytes);
}

abbrev pub decreases-loop-from : goal.decreases-loop-from
decreases-loop-from g l = length l.bytes - l.from
