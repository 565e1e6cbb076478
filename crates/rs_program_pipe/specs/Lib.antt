pub mod Digits
pub mod Lines
pub mod Coming
pub mod Views
pub mod Faults
pub mod Memory
pub mod OwnStores
pub mod Piping
