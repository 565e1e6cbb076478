use Rattle.std.proofs.Common.{◌≡◌, ◌∙◌, ap, sym, subst, arith, List, ℕ, ◌<◌, ◌^◌, length, Some, None, true}
use Rattle.std.specs.Prelude.{if◌then◌else◌}
use Rattle.std.specs.declared.vec.Vec.{Vec}
use Rattle.std.specs.declared.alloc.Global.{Global}
use Rattle.rs_topic.specs.Texts.{reads_as_text}
use Rattle.rs_server.specs.Conversation.{assigned_of}
use Rattle.rs_server.proofs.Identifiers.{assigned_reads, assigned_short}
use Rattle.rs_server.proofs.assigned.assigned_client.Goals as goal

pub from_bytes-requires : goal.from_bytes-requires
from_bytes-requires c =
    let is : c.in_ok-bytes.bytes ≡ assigned_of c.args.id.place c.args.id.number = c.in_ok-bytes.ensures.ok ∙ ap (λ (v : Vec ℕ Global). v.items) c.into_bytes.ensures.value ∙ c.in_ok-assigned_text.ensures in
    subst (λ (l : List ℕ). length l < 2 ^ 16) (sym is) (assigned_short c.args.id.place c.args.id.number (omega arith) (omega arith))

pub unreachable-requires : goal.unreachable-requires
unreachable-requires c =
    let is : c.in_ok-bytes.bytes ≡ assigned_of c.args.id.place c.args.id.number = c.in_ok-bytes.ensures.ok ∙ ap (λ (v : Vec ℕ Global). v.items) c.into_bytes.ensures.value ∙ c.in_ok-assigned_text.ensures in
    let reads : reads_as_text c.in_ok-bytes.bytes ≡ true = ap reads_as_text is ∙ assigned_reads c.args.id.place c.args.id.number (omega arith) (omega arith) in
    let none : (if reads_as_text c.in_ok-bytes.bytes then Some c.in_ok-bytes.bytes else None) ≡ None = sym c.from_bytes.ensures ∙ c.in-None.is in
    let some : Some c.in_ok-bytes.bytes ≡ None = rw reads at none in
    absurd cc
