use Rattle.std.proofs.Common.{sym, subst}
use Rattle.rs_message.specs.declared.entry.Entry.{Entry}
use Rattle.rs_store.specs.History.{IsLegal, extended}
use Rattle.rs_version.specs.Writer.{kept_of}
use Rattle.rs_journal_writer.proofs.Moving.{legal_first}
use Rattle.rs_journal_writer.proofs.publishing.publish_next.Goals as goal

pub follow-requires : goal.follow-requires
follow-requires g c = legal_first g.N.StoreName.limit (kept_of c.args.writer.now) c.args.waiting.now.items c.args.entry c.requires.next c.requires.legal
