use Rattle.std.proofs.Common.{ℕ, Some, refl, sym, ap, ◌∙◌}
use Rattle.rs_packet.specs.declared.packet.Packet.TheVariants as packet
use Rattle.rs_packet.specs.declared.reply.Reply.TheVariants as reply
use Rattle.rs_window.specs.Calls as window
use Rattle.rs_window.specs.State.{State}
use Rattle.rs_window.specs.declared.fault.Ack.{Ack}
use Rattle.rs_session.specs.declared.open.Open.{Open}
use Rattle.rs_session.specs.declared.open.Effect.TheVariants.{Replies}
use Rattle.rs_session.specs.Table.{released_by}
use Rattle.rs_session.specs.Points.{point_at}
use Rattle.rs_session.proofs.Rows.{acknowledged, not_acknowledged, unknown_low, unknown_high}
use Rattle.rs_session.proofs.open.Open.pubrec.Goals as goal

pub returns-in-Ok-Released : goal.returns-in-Ok-Released
returns-in-Ok-Released c = λ now mark list. let by : Ack → _ = λ a. Replies (released_by (window.Pubrec c.args.a.code) c.args.a.id a) in
    acknowledged (packet.Pubrec c.args.a) _ _ _ now (point_at c.args.self.now list mark) _ _ refl c.in-Ok-Released.ensures.step
    (ap (λ (n : ℕ). Replies (Some (reply.Pubrel c.args.a.id n))) c.code.ensures ∙ ap by (sym c.in-Ok-Released.field-0-is)) refl

pub returns-in-Ok-Freed : goal.returns-in-Ok-Freed
returns-in-Ok-Freed c = λ now mark list. let by : Ack → _ = λ a. Replies (released_by (window.Pubrec c.args.a.code) c.args.a.id a) in
    acknowledged (packet.Pubrec c.args.a) _ _ _ now (point_at c.args.self.now list mark) _ _ refl c.in-Ok-Freed.ensures.step (ap by (sym c.in-Ok-Freed.field-0-is)) refl

pub returns-then-a-lt128 : goal.returns-then-a-lt128
returns-then-a-lt128 c = λ now mark list. let by : Ack → _ = λ a. Replies (released_by (window.Pubrec c.args.a.code) c.args.a.id a) in
    acknowledged (packet.Pubrec c.args.a) _ _ _ now (point_at c.args.self.now list mark) _ _ refl c.in-Ok-Unknown.ensures.step (ap (λ (n : ℕ). Replies (Some (reply.Pubrel c.args.a.id n))) c.code-code.ensures ∙ unknown_low c.args.a.code c.args.a.id c.if-a-lt128.true ∙ ap by (sym c.in-Ok-Unknown.field-0-is)) refl

pub returns-else-a-lt128 : goal.returns-else-a-lt128
returns-else-a-lt128 c = λ now mark list. let by : Ack → _ = λ a. Replies (released_by (window.Pubrec c.args.a.code) c.args.a.id a) in
    acknowledged (packet.Pubrec c.args.a) _ _ _ now (point_at c.args.self.now list mark) _ _ refl c.in-Ok-Unknown.ensures.step (unknown_high c.args.a.code c.args.a.id c.if-a-lt128.false ∙ ap by (sym c.in-Ok-Unknown.field-0-is)) refl

pub returns-in-Err : goal.returns-in-Err
returns-in-Err c = λ now mark list.
    not_acknowledged (packet.Pubrec c.args.a) _ _ _ now (point_at c.args.self.now list mark) _ refl c.in-Err.ensures.step (ap (λ (w : State). let o : Open = record c.args.self.now { window = w } in o) c.in-Err.ensures.refused)
