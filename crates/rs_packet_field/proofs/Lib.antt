pub mod Numbers
pub mod PropertyLoop
pub mod Fields
pub mod PropertyLaws
pub mod Written
pub mod CarriedLaws
pub mod Sizes
