pub mod Symbols
pub mod Meaning
pub mod Refusals
pub mod Display
pub mod Dense
