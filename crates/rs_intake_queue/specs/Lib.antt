pub mod Changes
pub mod Ends
pub mod Law
pub mod Parts
pub mod QueueRule
