pub mod HexDigits
pub mod LineLemmas
pub mod BufferLemmas
pub mod WriterLemmas
pub mod Submits
pub mod OwnStores
pub mod Outputs
