-- What a start finds of what a crash left.
use Rattle.std.proofs.Common.{◌≡◌, inr, List, ◌++◌, refl, subst}
use Rattle.rs_message.specs.declared.entry.Operation.{Operation}
use Rattle.rs_store.specs.History.{AreRetained}
use Rattle.rs_version.specs.First.{first_of}
use Rattle.rs_journal.specs.Retaining.{retained_after}
use Rattle.rs_journal.proofs.FrameLemmas.{one_list_of}
use Rattle.rs_journal.proofs.RestartLemmas.{answer_alike}
use Rattle.rs_journal.proofs.RetainedLemmas.{sets_retained}
use Rattle.rs_journal_writer.specs.Law.{AnswerAsBefore}
use Rattle.rs_journal_writer.proofs.Storing.{first_same}

pub answer_as_before : AnswerAsBefore
answer_as_before published behind image operations given s formed stands is =
    let same : s.operations ≡ operations = one_list_of image s.operations operations s.formed formed (inr s.keeps) stands in
    let kept : AreRetained (published ++ s.front) (retained_after operations) =
    subst (λ (o : List Operation). AreRetained (published ++ s.front) (retained_after o)) same s.retained in
    let first : AreRetained (first_of given) (retained_after operations) =
    first_same operations (retained_after operations) given is refl (sets_retained (retained_after operations) kept.rises) in
    (s.front, s.begins, λ rest pattern now answer. answer_alike (published ++ s.front) (first_of given) rest (retained_after operations) kept first pattern now answer)
