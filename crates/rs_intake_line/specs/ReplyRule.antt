-- The rule of a way back from the writer to a line.
use Rattle.std.specs.Prelude.{ℕ, ◌≡◌, Bool, true, false, List, [], ◌++◌}
use Rattle.std.specs.List.{flat_map}
use mathlib.Core.Option.{some}
use lib.ListN.{get_elem?}
use Rattle.rs_intake_line.specs.Done.{ReplyValue}

-- What a pass of a way back knows: whether it sends, whether it receives, and the replies that it sent or received. A message has
-- replies to changes of one job, in their order
pub record WayView : Type 0 where
  pub sends : Bool
  pub receives : Bool
  pub replies : List ReplyValue

-- what the line took of what came by its way back, and what came and was not taken yet
pub record Heard : Type 0 where
  pub heard : List ReplyValue
  pub came : List ReplyValue

-- one pass for both ends, before the first reply
abbrev pub both_ends : WayView
both_ends = record { sends = true; receives = true; replies = [] }

-- the two passes that it is cut into
abbrev pub sending_end : WayView → WayView
sending_end v = record { sends = v.sends; receives = false; replies = v.replies }

abbrev pub receiving_end : WayView → WayView
receiving_end v = record { sends = false; receives = v.receives; replies = v.replies }

-- the pass with the replies of one more message
abbrev pub replies_more : WayView → List ReplyValue → WayView
replies_more v replies = record { sends = v.sends; receives = v.receives; replies = v.replies ++ replies }

abbrev pub Counts : WayView → List ReplyValue → WayView → Type 0
Counts v replies w = w ≡ replies_more v replies

-- the replies of these messages, in their order
abbrev pub joined : List (List ReplyValue) → List ReplyValue
joined items = flat_map (λ replies. replies) items

-- One pass sends, and knows all that was sent: what was received, followed by what the way back holds. One receives, and knows what
-- was received
abbrev pub FitsWay : ℕ → ℕ → List ReplyValue → List ReplyValue → ℕ → WayView → Type 0
FitsWay sender receiver sent received pass v =
    (v.sends ≡ true → (pass ≡ sender) × (v.replies ≡ sent)) × (v.receives ≡ true → (pass ≡ receiver) × (v.replies ≡ received))

abbrev pub Replies : List (List ReplyValue) → List WayView → Type 0
Replies items views =
    (sender : ℕ) × (receiver : ℕ) × (received : List ReplyValue)
    × ((pass : ℕ) (v : WayView) → get_elem? views pass ≡ some v → FitsWay sender receiver (received ++ joined items) received pass v)
