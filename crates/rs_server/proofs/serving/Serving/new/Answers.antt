use Rattle.std.proofs.Common.{◌∙◌, List, ap, arith, length, subst, sym}
use Rattle.rs_packet.specs.Prefixes.{IsMore}
use Rattle.rs_session.specs.Points.{Given}
use Rattle.rs_session.specs.State.{fresh}
use Rattle.rs_server.proofs.Conversations.{first_expected, talks_first}
use Rattle.rs_server.proofs.Goings.{no_byte}
use Rattle.rs_server.proofs.serving.Serving.new.Goals as goal

pub returns-clause-underway : goal.returns-clause-underway
returns-clause-underway g c = λ seen unread written told stands.
    record {
      handled = record {
        talk = talks_first g.G.Gate.stands g.G.Gate.mark g.G.Gate.pending _ _ _ c.new-4.result.items c.new-2.result.items _ unread told written c.new.ensures.gate (c.new.ensures.state ∙ ap fresh c.in-Ok.ensures) c.new-2.ensures.items c.new-4.ensures.items seen stands;
        expected = λ e. first_expected g.G.Gate.pending _ _ c.new-4.result.items c.new.ensures.gate e;
        few = omega (arith, ap (λ (l : List Given). length l) c.new-4.ensures.items);
      };
      none_planned = c.new-4.ensures.items;
      none_whole = subst IsMore (sym c.new-2.ensures.items) no_byte;
    }
