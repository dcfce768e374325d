pub mod Members
pub mod Places
pub mod Made
