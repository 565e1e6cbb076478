use Rattle.rs_version.proofs.WriterState.{all_published, still_writing}
use Rattle.rs_version.proofs.writer.VersionWriter.release.Goals as goal

pub invariant_of-self : goal.invariant_of-self
invariant_of-self g c = still_writing _ _ _ _ c.publish.new.copies _ _ _ c.self.invariant c.in_err-publish.ensures.0 c.in_err-publish.ensures.1

pub invariant_of-self-2 : goal.invariant_of-self-2
invariant_of-self-2 g c = rw c.take.ensures.after (all_published _ _ _ _ c.publish.new.copies _ _ _ c.in-Some._held c.self.invariant c.in-Some.is c.in_ok-publish.ensures.0 c.in_ok-publish.ensures.1)
