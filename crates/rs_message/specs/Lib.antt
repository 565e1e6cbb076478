pub mod Bare
pub mod Codes
pub mod Values
pub mod Sizes
pub mod Messages
pub mod Equality
pub mod Views
