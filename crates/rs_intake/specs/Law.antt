-- What follows from the rule of a way back, and from the outcomes of entries.
use Rattle.std.specs.Prelude.{ℕ, ◌≡◌, ◌+◌, ◌++◌, true, false, All, List, length}
use mathlib.Core.Option.{some}
use mathlib.Core.List.{IsPrefix}
use lib.ListN.{get_elem?}
use Rattle.rs_message.specs.Messages.{is_sweep}
use Rattle.rs_message.specs.declared.entry.Entry.{Entry}
use Rattle.rs_store.specs.History.{SerialsRise}
use Rattle.rs_version.specs.First.{AreOwn}
use Rattle.rs_intake_line.specs.Done.{AreDone, Outcome, ReplyValue, refused_in}
use Rattle.rs_intake_queue.specs.Parts.{IsPart}
use Rattle.rs_intake_line.specs.Sweeps.{AreForEntries, without_sweeps}
use Rattle.rs_intake_line.specs.ReplyRule.{Replies, WayView}

-- whatever a way back holds: what the line received is a prefix of what the writer's end sent
abbrev pub HeardInOrder : Type 0
HeardInOrder = (items : List (List ReplyValue)) (views : List WayView) (i j : ℕ) (writer line : WayView) → Replies items views
    → get_elem? views i ≡ some writer → writer.sends ≡ true
    → get_elem? views j ≡ some line → line.receives ≡ true
    → IsPrefix line.replies writer.replies

-- whatever the outcomes of entries that are no Sweeps, from a first list on that is the writer's own: what is kept then, without its Sweeps,
-- is a part of both, which lacks as many of them as were refused; and each Sweep is the one that an entry needed there
abbrev pub KeptByOutcomes : Type 0
KeptByOutcomes = (limit : ℕ) (first entries kept : List Entry) (outcomes : List Outcome) → AreOwn first → SerialsRise first
    → All (λ e. is_sweep e.operation ≡ false) entries → AreDone limit first entries outcomes kept
    → IsPart (without_sweeps kept) (first ++ entries) × (length (without_sweeps kept) + refused_in outcomes ≡ length entries + length first)
    × AreForEntries limit entries kept
