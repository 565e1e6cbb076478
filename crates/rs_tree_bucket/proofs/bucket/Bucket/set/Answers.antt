use Rattle.std.proofs.Common.{◌≡◌, [], ◌∷◌, true, Some, ap, sym, ◌∙◌, arith}
use Rattle.rs_message.specs.declared.found.Found.{Found}
use Rattle.rs_topic.specs.Rests.{levels_from}
use Rattle.rs_tree_bucket.specs.Spots.{is_there, spot_of}
use Rattle.rs_tree_bucket.proofs.Buckets.{one_found, put_one}
use Rattle.rs_tree_bucket.proofs.bucket.Bucket.set.Goals as goal

pub returns-in-Ok-clause-done : goal.returns-in-Ok-clause-done
returns-in-Ok-clause-done c =
    let path = levels_from c.args.at c.args.found.topic in
    let there : is_there path (spot_of c.in-One.from c.in-One.one ∷ []) ≡ true = rw (c.as_bytes.ensures.bytes, c.topic.ensures) at (sym c.is_same.ensures ∙ c.if-is_same.true) in
    let same : c.in-Ok.start ≡ c.args.at = omega (arith, c.in-Ok.ensures) in
    rw (← c.self.view_is, c.in-One.is, c.replace.ensures.after, same) (sym (put_one path (levels_from c.in-One.from c.in-One.one.topic) c.args.found c.in-One.one there))

pub returns-in-Ok-clause-replaced : goal.returns-in-Ok-clause-replaced
returns-in-Ok-clause-replaced c =
    let path = levels_from c.args.at c.args.found.topic in
    let there : is_there path (spot_of c.in-One.from c.in-One.one ∷ []) ≡ true = rw (c.as_bytes.ensures.bytes, c.topic.ensures) at (sym c.is_same.ensures ∙ c.if-is_same.true) in
    rw (← c.self.view_is, c.in-One.is) (ap (λ (f : Found). Some f) c.replace.ensures.value ∙ one_found path (levels_from c.in-One.from c.in-One.one.topic) c.in-One.one there)
