-- The replies of one message.
use Rattle.std.specs.Prelude.{List, [], ◌∷◌, ◌++◌, map, Some, None}
use Rattle.rs_intake_line.specs.Done.{ReplyValue, refused_reply}
use Rattle.rs_intake_line.specs.declared.reply.Replies.{Replies}
use Rattle.rs_intake_line.specs.declared.reply.Replies.TheVariants.{One, Many}

-- the replies as a list
abbrev pub listed : {N : Type 0} → Replies N → List ReplyValue
listed (One (Some reply)) = reply ∷ []
listed (One None) = []
listed (Many made refused) = made.items ++ map refused_reply refused.items
