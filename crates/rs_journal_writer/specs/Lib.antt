pub mod Keeping
pub mod Law
pub mod State
