pub mod Counters
pub mod Snapshots
pub mod Texts
