use Rattle.std.proofs.Common.{ap, ◌∙◌, arith}
use Rattle.rs_store.specs.Bytes.{retained_bytes}
use Rattle.rs_store.proofs.Bytes.{bytes_more, bytes_none}
use Rattle.kit_test.proofs.map.bytes_of_all.Goals as goal

pub overflow_add-bytes : goal.overflow_add-bytes
overflow_add-bytes c =
    let more = ap retained_bytes c.in-Some.ensures.steps ∙ bytes_more _ _ in
    omega (arith, c.requires, c.loop-topic.invariant, more, c.bytes_of-bytes.ensures.value)

pub loop-topic-preserved : goal.loop-topic-preserved
loop-topic-preserved c =
    let more = ap retained_bytes c.in-Some.ensures.steps ∙ bytes_more _ _ in
    omega (arith, c.loop-topic.invariant, more, c.bytes_of-bytes.ensures.value)

pub returns : goal.returns
returns c = omega (arith, c.loop-topic.invariant, ap retained_bytes c.in-None.ensures.steps.0, bytes_none)
