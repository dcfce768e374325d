pub mod Bytes
pub mod Words
pub mod Stretches
pub mod Reading
pub mod Vocabulary
pub mod Tokens
pub mod Codes
