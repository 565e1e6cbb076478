pub mod Gates
pub mod Kept
pub mod Store
pub mod Writing
