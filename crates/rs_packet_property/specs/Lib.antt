pub mod Values
pub mod Forms
pub mod Properties
pub mod Carried
pub mod Bounds
pub mod Equality
pub mod Shared
