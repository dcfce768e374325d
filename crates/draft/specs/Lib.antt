pub mod Draft
pub mod Building
pub mod Noted
pub mod Laws
pub mod Places
pub mod Outcome
pub mod Bounds
