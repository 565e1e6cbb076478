pub mod Faults
pub mod FieldForms
pub mod Laws
pub mod Pairs
pub mod PropertyForms
pub mod RecordForms
pub mod Sizes
