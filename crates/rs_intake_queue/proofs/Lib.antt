pub mod Queues
pub mod Parts
pub mod Numbered
