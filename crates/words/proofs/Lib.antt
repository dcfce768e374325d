pub mod Places
pub mod Foreign
pub mod Stretched
pub mod Unique
pub mod OneKind
