use Rattle.std.proofs.Common.{◌≡◌, ◌++◌, take}
use Rattle.std.specs.List.{All, flat_map}
use Rattle.rs_topic.specs.Texts.{IsText}
use Rattle.rs_journal_record.specs.Properties.{pair_form}
use Rattle.rs_journal_record.proofs.properties.put_pairs.Given as goal

abbrev pub invariant-loop-pair : goal.invariant-loop-pair
invariant-loop-pair l = record {
  written : l.out.items ≡ l.fn.out.items ++ flat_map pair_form (take l.pair-index l.pairs);
  texts : All (λ pair. IsText pair.0 × IsText pair.1) (take l.pair-index l.pairs);
}
