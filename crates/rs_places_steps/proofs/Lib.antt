mod Beginnings
mod Closing
pub mod Each
mod EndCells
mod HandedBack
mod Making
mod Marks
pub mod Places
pub mod Receipts
pub mod Sent
mod ServedAt
mod Stepping
mod Visits
pub mod Within
