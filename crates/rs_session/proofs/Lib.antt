pub mod Submitting
pub mod Rows
pub mod Runs
pub mod SubscriptionLemmas
pub mod Expecting
pub mod Certain
