pub mod Buckets
pub mod Chains
pub mod Chosen
pub mod Clearing
pub mod KeyLemmas
pub mod Spots
pub mod Stopping
pub mod Sweeping
