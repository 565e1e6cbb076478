use Rattle.std.proofs.Common.{ℕ, List, subst}
use Rattle.rs_packet.specs.declared.reply.Reply.{Reply}
use Rattle.rs_session.specs.Run.{GivesAll}
use Rattle.rs_session.specs.State.{due_of, gate_of, state_of}
use Rattle.rs_server.specs.Counts.{inner_of}
use Rattle.rs_server.specs.Writing.{Writes, all_reply_bytes}
use Rattle.rs_server.proofs.Conversations.{makes_exchange}
use Rattle.rs_server.proofs.Planning.{exchange_pending}
use Rattle.rs_server.proofs.serving.make_exchange.Goals as goal

pub returns-clause-exchange : goal.returns-clause-exchange
returns-clause-exchange g c =
    let mid = c.on_input-step.new.self in
    let Written : List ℕ → Type 0 = Writes c.write_replies.result (g.W.Write.contents (inner_of c.args.writer.now)) (g.W.Write.contents (inner_of c.write_replies.new.writer)) in
    makes_exchange g.G.Gate.stands g.G.Gate.mark g.G.Gate.pending _ _ _ _ c.args.incoming _ _ _ Written c.on_input-step.ensures.row c.requires.goes_on c.write_replies.ensures.gate
    (subst (λ (n : ℕ). (replies : List Reply) × GivesAll n (due_of mid) (state_of mid) replies (state_of c.write_replies.new.session) × Written (all_reply_bytes replies)) c.time-now.ensures c.write_replies.ensures.bytes)

pub returns-clause-pending : goal.returns-clause-pending
returns-clause-pending g c =
    let mid = c.on_input-step.new.self in
    let (replies, given, written) = c.write_replies.ensures.bytes in
    exchange_pending g.G.Gate.pending g.G.Gate.mark c.args.incoming (gate_of c.args.session.now) (gate_of mid) (gate_of c.write_replies.new.session) (state_of mid) (state_of c.write_replies.new.session) _ replies c.write_replies.ensures.gate
    (subst (λ (n : ℕ). GivesAll n (due_of mid) (state_of mid) replies (state_of c.write_replies.new.session)) c.time-now.ensures given) c.on_input-step.ensures.pending
