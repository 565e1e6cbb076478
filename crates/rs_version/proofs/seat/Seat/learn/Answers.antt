use Rattle.std.proofs.Common.{List, subst, sym}
use mathlib.Core.List.{IsPrefix}
use Rattle.rs_message.specs.declared.entry.Entry.{Entry}
use Rattle.rs_version.proofs.Prefixes.{prefix_self}
use Rattle.rs_version.proofs.seat.Seat.learn.Goals as goal

pub returns-then-not-reaches-clause-told : goal.returns-then-not-reaches-clause-told
returns-then-not-reaches-clause-told g c = subst (λ (l : List Entry). IsPrefix c.args.told l) (sym c.told.view_is) (prefix_self c.args.told)
