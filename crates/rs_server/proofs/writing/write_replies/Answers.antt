use Rattle.std.proofs.Common.{◌≡◌, ◌++◌, ◌∷◌, [], ◌∙◌, sym, true, false, is_ok}
use Rattle.rs_session.proofs.Runs.{gives_more}
use Rattle.rs_server.specs.Counts.{inner_of, failures_of}
use Rattle.rs_server.specs.Writing.{Writes, IsWriteCause, all_reply_bytes}
use Rattle.rs_server.proofs.Written.{writes_next, writes_none}
use Rattle.rs_server.proofs.writing.write_replies.Goals as goal
use Rattle.rs_server.proofs.writing.write_replies.Goals.{then-is_ok, else-is_ok}

pub loop-reply-smaller : goal.loop-reply-smaller
loop-reply-smaller g c = c.in-Some.ensures.fewer

pub loop-reply-preserved : goal.loop-reply-preserved
loop-reply-preserved g c =
    let ((replies, given, written), gate, cause) = c.loop-reply.invariant in
    let reply = c.in-Some.reply in
    let before = c.loop-reply.written in
    let more : Writes c.if-is_ok.written (g.W.Write.contents (inner_of c.args.writer.now)) (g.W.Write.contents (inner_of c.if-is_ok.writer)) (all_reply_bytes (replies ++ reply ∷ []))
    × IsWriteCause c.if-is_ok.written (failures_of c.args.writer.now) (failures_of c.if-is_ok.writer) =
    elim c.if-is_ok.branch [
      | then-is_ok w ↦
          let is : is_ok before ≡ true = sym c.is_ok.ensures.value ∙ w.if-is_ok.true in
          rw (w.written-is, w.writer-is) (writes_next g.W.Write.contents before w.write_reply-written.result _ c.loop-reply.writer w.write_reply-written.new.writer replies reply _ written cause is w.write_reply-written.ensures.bytes w.write_reply-written.ensures.cause)
      | else-is_ok w ↦
          let is : is_ok before ≡ false = sym c.is_ok.ensures.value ∙ w.if-is_ok.false in
          rw (w.written-is, w.writer-is) (writes_none before _ _ replies reply _ _ written cause is, cause)
    ] in
    ((replies ++ reply ∷ [], gives_more _ _ _ _ _ _ _ _ _ given c.in-Some.ensures.given, more.0), c.next_reply.ensures.gate ∙ gate, more.1)
