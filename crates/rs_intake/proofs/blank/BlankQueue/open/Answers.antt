use Rattle.std.proofs.Common.{rules, arith}
use Rattle.std.proofs.lemmas.Grind.{common_steps, replicate_next}
use Rattle.rs_intake.proofs.Opening.{new_lines_more}
use Rattle.rs_intake.proofs.blank.BlankQueue.open.Goals as goal

pub loop-before-preserved : goal.loop-before-preserved
loop-before-preserved g c = (
  search rules,
  search rules,
  search rules,
  search rules,
  search rules,
  search rules,
  search rules,
  search rules,
  grind (arith, common_steps, new_lines_more),
  grind (arith, common_steps),
  grind (arith, common_steps, replicate_next),
)
