pub mod FirstDifference
pub mod Joined
pub mod LevelLemmas
pub mod Matched
pub mod Ordered
pub mod Readings
pub mod Rests
pub mod TextLemmas
