pub mod Clock
pub mod Moments
pub mod Counts
pub mod Writing
pub mod Conversation
pub mod Refusals
pub mod Serving
