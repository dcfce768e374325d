pub mod Columns
pub mod Alphabets
