use Rattle.std.proofs.Common.{◌∙◌, ℕ, List, [], ap}
use Rattle.rs_message.specs.Values.{MessageValue}
use Rattle.rs_store.specs.Bytes.{retained_bytes}
use Rattle.rs_store.specs.Ledgers.{LedgerValue, content_of}
use Rattle.rs_store.proofs.Bytes.{bytes_none}
use Rattle.kit_test.proofs.map.MapCatalogueCatalogue.new.Goals as goal

pub returns : goal.returns
returns c = ap (λ (l : List (List ℕ × MessageValue)). content_of l c.in_ok-new.field-0) c.new.ensures.empty ∙ ap (λ (l : LedgerValue). content_of [] l) c.in_ok-new.ensures

pub invariant_of-result-clause-weighed : goal.invariant_of-result-clause-weighed
invariant_of-result-clause-weighed c = ap retained_bytes c.new.ensures.empty ∙ bytes_none
