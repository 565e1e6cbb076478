pub mod Causes
pub mod Codes
pub mod Law
pub mod Settling
pub mod Together
pub mod Writers
