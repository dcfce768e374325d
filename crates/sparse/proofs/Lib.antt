pub mod Order
pub mod Codes
pub mod Calls
