pub mod Crashes
pub mod Moving
pub mod Parts
pub mod Sent
pub mod Shortening
pub mod Storing
