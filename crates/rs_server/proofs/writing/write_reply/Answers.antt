use Rattle.std.proofs.Common.{rules, ap, subst, List, ℕ, ◌++◌, ◌∙◌}
use Rattle.rs_server.specs.Counts.{inner_of}
use Rattle.rs_server.specs.Writing.{AppendsFront}
use Rattle.rs_server.proofs.Written.{all_in_front}
use Rattle.rs_server.proofs.writing.write_reply.Goals as goal

pub returns-clause-bytes : goal.returns-clause-bytes
returns-clause-bytes g c =
    let first = g.W.Write.contents (inner_of c.args.writer.now) in
    let mid = g.W.Write.contents (inner_of c.write_both.new.writer) in
    let last = g.W.Write.contents (inner_of c.flush.new.self) in
    subst (λ (l : List ℕ). AppendsFront first last l) (ap (λ (l : List ℕ). l ++ c.in-Ok.rest.now) c.as_slice.ensures ∙ c.in-Ok.ensures) (all_in_front first mid last (c.as_slice.result.now ++ c.in-Ok.rest.now) c.in_ok-write_both.ensures.bytes c.flush.ensures.bytes)

pub returns-clause-cause : goal.returns-clause-cause
returns-clause-cause g c = search rules
