use Rattle.std.proofs.Common.{◌∙◌, ap, subst, sym}
use Rattle.rs_window.specs.InUse.{in_use, IsDistinct}
use Rattle.rs_window.proofs.InUseLemmas.{pushed, pushed_apart}
use Rattle.rs_window.proofs.inbound.put_in.Goals as goal

pub returns-clause-inserted : goal.returns-clause-inserted
returns-clause-inserted c = ap in_use c.push.ensures.items ∙ pushed c.args.ids.now.items c.args.id

pub returns-clause-distinct : goal.returns-clause-distinct
returns-clause-distinct c = subst IsDistinct (sym c.push.ensures.items) (pushed_apart c.args.ids.now.items c.args.id c.requires.distinct c.requires.new)
