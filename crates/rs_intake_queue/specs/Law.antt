-- What follows from the rule of the queue.
use Rattle.std.specs.Prelude.{ℕ, ◌≡◌, true, List, length}
use mathlib.Core.Option.{some}
use mathlib.Core.List.{IsPrefix}
use lib.ListN.{get_elem?}
use Rattle.rs_intake_queue.specs.declared.rule.PassView.{PassView}
use Rattle.rs_intake_queue.specs.declared.job.Job.{Job}
use Rattle.rs_intake_queue.specs.QueueRule.{Delivers, Keeps, at_place, of_place}

-- whatever the queue holds: what the writer took of a place is a prefix of what the line of that place sent
abbrev pub InOrder : Type 0
InOrder = (items : List Job) (views : List PassView) (i j : ℕ) (writer line : PassView) → Delivers items views
    → get_elem? views i ≡ some writer → writer.takes ≡ true
    → get_elem? views j ≡ some line → line.sends ≡ true
    → IsPrefix (of_place line.from writer.entries) line.entries

-- and once the writer took the End of the place, that is all that the line sent
abbrev pub EndIsLast : Type 0
EndIsLast = (items : List Job) (views : List PassView) (i j : ℕ) (writer line : PassView) → Keeps items views
    → get_elem? views i ≡ some writer → writer.takes ≡ true
    → get_elem? views j ≡ some line → line.sends ≡ true
    → length (at_place line.from writer.ends) ≡ 1
    → of_place line.from writer.entries ≡ line.entries
