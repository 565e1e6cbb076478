pub mod Ahead
pub mod Faults
pub mod Ways
