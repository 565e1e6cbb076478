use Rattle.std.proofs.Common.{List, ℕ, sym, ap, ◌∙◌}
use Rattle.rs_topic.specs.Topics.{first_fault, name_faults_of_text}
use Rattle.rs_topic.proofs.Readings.{name_of_fault}
use Rattle.rs_topic.proofs.name.TopicNameTryFromText.try_from.Goals as goal

pub returns-in-Some : goal.returns-in-Some
returns-in-Some c =
    sym (name_of_fault c.args.text c.in-Some.fault (sym c.in-Some.is ∙ (c.name_fault.ensures ∙ ap (λ (t : List ℕ). first_fault name_faults_of_text t) c.as_bytes.ensures.bytes)))
