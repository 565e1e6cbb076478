use Rattle.std.proofs.Common.{sym, ◌∙◌, ◌++◌, [], List, ℕ, ap, subst}
use Rattle.std.specs.declared.vec.Vec.{Vec}
use Rattle.std.specs.declared.alloc.Global.{Global}
use Rattle.rs_session.specs.Gate.{Mark}
use Rattle.rs_session.specs.Local.{local_mark}
use Rattle.rs_session.specs.Points.{point_at}
use Rattle.rs_session.specs.Run.{Run}
use Rattle.rs_server.specs.Conversation.{start, assigned_of, moments_of, planned_moments, replies_of}
use Rattle.rs_server.specs.Moments.{told_by}
use Rattle.rs_program_pipe.specs.OwnStores.{content_of}
use Rattle.rs_session.proofs.Runs.{of_gate_weaker}
use Rattle.rs_program_pipe.specs.Memory.{IsOfMark}
use Rattle.rs_program_pipe.proofs.OwnStores.{of_mark}
use Rattle.rs_server.proofs.Clocks.{first_moments}
use Rattle.rs_program_pipe.proofs.memory.serve_bytes.Goals as goal

pub returns-in-Ok-0₀ : goal.returns-in-Ok-0₀
returns-in-Ok-0₀ g c =
    let (state, planned, left, few, talk, ends) = c.serve.ensures.conversation [] c.in-Ok.ensures.list in
    let conversation = talk.conversation in
    let to = point_at state conversation.seen (local_mark (content_of c.serve.result.1)) in
    let read = rw c.new-reader.ensures.inner at conversation.read in
    let written = rw (c.in-Ok-0₀.is, c.new-writer.ensures.inner) at conversation.replies in
    let closes = rw c.in-Ok-0₀.is at ends in
    record {
      exchanges = conversation.exchanges;
      to = to;
      taken = conversation.bytes;
      buffered = talk.buffered;
      rest = _;
      run = subst (λ (m : Mark). Run (start (assigned_of 1 1) [] m) conversation.exchanges to) c.in-Ok.ensures.mark conversation.run;
      split = read;
      inputs = conversation.inputs;
      moments = first_moments c.args.now (told_by c.new-clock.result) _ c.new-3.result.items (moments_of conversation.exchanges) (planned_moments planned) c.new-clock.ensures c.new-3.ensures.items conversation.moments;
      replies = ap (λ (v : Vec ℕ Global). v.items) c.into_inner.ensures ∙ written ∙ ap (λ (l : List ℕ). l ++ replies_of conversation.exchanges) c.new-2.ensures.items;
      closes = closes;
      each = of_gate_weaker _ IsOfMark conversation.exchanges (λ mark list h. of_mark h.0 mark list h.1 h.2) conversation.of_gate;
      last = record { legal = conversation.stood_for.legal; places = conversation.stood_for.places; needed = conversation.stood_for.needed; serial = sym (conversation.stood_for.stands.serials 1) };
    }
