use Rattle.rs_topic.proofs.TextLemmas.{utf8_test}
use Rattle.rs_topic.proofs.text.is_utf8_text.Goals as goal

pub returns : goal.returns
returns c = utf8_test c.args.bytes.now c.is_utf8.result c.is_utf8.ensures
