use Rattle.std.proofs.Common.{◌≡◌, ◌∙◌, ◌++◌, take, arith}
use Rattle.std.proofs.lemmas.Bool.Decides.{nat_tests}
use Rattle.rs_server.specs.Counts.{failures_of}
use Rattle.std.proofs.KnownBytes.{Appends-trans}
use Rattle.rs_server.proofs.Written.{moves_front}
use Rattle.rs_server.proofs.writing.write_bytes.Goals as goal

pub loop-rest-preserved : goal.loop-rest-preserved
loop-rest-preserved g c =
    let ((done, split, appended), same) = c.loop-rest.invariant in
    let rest = c.loop-rest.rest.now in
    let n = c.in-Ok.n in
    ((done ++ take n rest, moves_front _ done rest n split, Appends-trans _ _ _ _ _ appended c.in-Ok.ensures.bytes), (let k : failures_of c.write.new.self ≡ failures_of c.loop-rest.writer = grind (arith, nat_tests, c.in-Ok.ensures.count, c.if-n-eq0.false) in k ∙ same))
