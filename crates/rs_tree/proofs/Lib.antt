pub mod Sent
pub mod Trees
