-- A writer that keeps may cross threads, in one step. It has a writer of versions, whose catalogue is of a recursive type.
use denote.RattleType.{RattleType}
use denote.Param.Send.{IsSend, plain_send, recorded_send, struct_send, view_send}
use denote.Struct.Declared.{shape}
use Rattle.rs_journal.proofs.journal.Journal.TheSendSync as journal
use Rattle.rs_message.proofs.entry.Entry.TheSendSync as entry
use Rattle.rs_message.specs.contracts.entry.Entry as Entry
use Rattle.rs_store.proofs.limit.TopicLimit.TheSendSync as limit
use Rattle.rs_version.proofs.Sent.{writer_send}
use Rattle.rs_version.specs.declared.history.StoreName as StoreName
use Rattle.rs_journal_writer.proofs.upkeep.Upkeep.TheSendSync as upkeep
use Rattle.rs_journal_writer.specs.contracts.kept_writer.KeptWriter as KeptWriter
use Rattle.rs_journal_writer.specs.contracts.kept_writer.KeptWriter.TheInside as InWriter
use Rattle.sqlite_disk.specs.declared.Disk as Disk
use Rattle.std.proofs.Crossing.{Deque-send}

pub kept_send : (N R D C : RattleType) (g : StoreName.Ghosts N.Denot) (k : Disk.Ghosts D.Denot) → IsSend R → IsSend D → IsSend C → IsSend (KeptWriter.the_row N R D C k g)
kept_send N R D C g k r d c = view_send (InWriter.the_row N R D C k g) _ _ _ _
    (recorded_send (InWriter.the_field N R D C k g).row _ _ (InWriter.the_type N R D C k g).to_one (struct_send (shape (InWriter.the_type N R D C k g)) (
      writer_send N g R r,
      (
        journal.the_field_send D k d,
        (
          limit.the_send,
          (
            Deque-send Entry.the_row entry.the_send,
            (plain_send _ _ _ _ _, (plain_send _ _ _ _ _, (upkeep.the_field_send, (c, tt)))),
          ),
        ),
      ),
    )))
