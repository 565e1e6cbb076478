use Rattle.std.proofs.Common.{ℕ, List, subst}
use Rattle.std.proofs.lemmas.List.Elements.{All-more}
use Rattle.rs_topic.specs.Texts.{IsText}
use Rattle.rs_journal_record.proofs.Pairs.{put_step}
use Rattle.rs_journal_record.proofs.properties.put_pairs.Goals as goal

pub loop-pair-preserved : goal.loop-pair-preserved
loop-pair-preserved c = record {
  written = put_step c.args.out.now.items c.loop-pair.out.items c.put_pair.new.out.items c.args.pairs.now c.loop-pair.pair-index c.pair-item.result c.loop-pair-test.true c.pair-item.is c.loop-pair.invariant.written c.in_ok-put_pair.ensures.put;
  texts = All-more (λ pair. IsText pair.0 × IsText pair.1) c.args.pairs.now c.loop-pair.pair-index c.pair-item.result c.loop-pair-test.true c.loop-pair.invariant.texts
      (subst (λ (p : List ℕ × List ℕ). IsText p.0 × IsText p.1) c.pair-item.is c.in_ok-put_pair.ensures.fits);
}
