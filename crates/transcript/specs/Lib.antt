pub mod Input
pub mod Word
pub mod Lay
pub mod Page
pub mod Source
pub mod Transcript
