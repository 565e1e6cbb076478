use Rattle.std.proofs.Common.{List, ℕ, sym, ap, ◌∙◌}
use Rattle.rs_topic.specs.Topics.{first_fault, filter_faults_of_text}
use Rattle.rs_topic.proofs.Readings.{filter_of_fault}
use Rattle.rs_topic.proofs.filter.TopicFilterTryFromText.try_from.Goals as goal

pub returns-in-Some : goal.returns-in-Some
returns-in-Some c =
    sym (filter_of_fault c.args.text c.in-Some.fault (sym c.in-Some.is ∙ (c.filter_fault.ensures ∙ ap (λ (t : List ℕ). first_fault filter_faults_of_text t) c.as_bytes.ensures.bytes)))
