-- What a map keeps.
use Rattle.rs_store.specs.declared.content.Content.{Content}
use Rattle.rs_store.specs.Ledgers.{content_of}
use Rattle.kit_test.specs.declared.map.MapCatalogue.{MapCatalogue}

abbrev pub content_of_map : MapCatalogue → Content
content_of_map c = content_of c.messages.retained.entries c.ledger
