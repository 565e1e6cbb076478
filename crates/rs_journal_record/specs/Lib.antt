pub mod Fields
pub mod Law
pub mod Properties
pub mod Records
