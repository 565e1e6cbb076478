-- Which catalogue is kept, and what a version has of it, as contracts name them. Another one takes an edit of this file, of
-- src/catalogue.rt and of proofs/Sent.antt.
use Rattle.std.specs.Prelude.{ℕ, List}
use Rattle.rs_message.specs.Values.{MessageValue}
use Rattle.rs_store.specs.declared.content.Content.{Content}

abbrev pub StoreCatalogue : Type 0
StoreCatalogue = Content

abbrev pub content_of : StoreCatalogue → Content
content_of c = c

abbrev pub StoreMessages : Type 0
StoreMessages = List (List ℕ × MessageValue)

abbrev pub retained_in : StoreMessages → List (List ℕ × MessageValue)
retained_in m = m
