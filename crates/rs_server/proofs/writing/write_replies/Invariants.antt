-- What the session gave so far was written, or a prefix of it.
use Rattle.std.proofs.Common.{◌≡◌, List}
use Rattle.rs_packet.specs.declared.reply.Reply.{Reply}
use Rattle.rs_session.specs.State.{state_of, due_of, gate_of}
use Rattle.rs_session.specs.Run.{Gives, replies_left}
use Rattle.rs_server.specs.Counts.{inner_of, failures_of}
use Rattle.rs_server.specs.Writing.{Writes, IsWriteCause, all_reply_bytes}
use Rattle.rs_server.proofs.writing.write_replies.Given as goal

abbrev pub invariant-loop-reply : goal.invariant-loop-reply
invariant-loop-reply g l =
    ((replies : List Reply) × Gives l.now (due_of l.initial.session) (state_of l.initial.session) replies (due_of l.session) (state_of l.session)
    × Writes l.written (g.W.Write.contents (inner_of l.initial.writer)) (g.W.Write.contents (inner_of l.writer)) (all_reply_bytes replies))
    × (gate_of l.session ≡ gate_of l.initial.session)
    × IsWriteCause l.written (failures_of l.initial.writer) (failures_of l.writer)

abbrev pub decreases-loop-reply : goal.decreases-loop-reply
decreases-loop-reply g l = replies_left (due_of l.session) (state_of l.session)
