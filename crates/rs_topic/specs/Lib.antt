pub mod Law
pub mod Matching
pub mod Meanings
pub mod Order
pub mod Rests
pub mod Texts
pub mod TopicOrder
pub mod Topics
