pub mod Identifiers
pub mod Replayed
