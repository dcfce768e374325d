pub mod Rows
pub mod Settled
pub mod Stored
pub mod Lists
pub mod Violations
