pub mod Stretches
pub mod Running
pub mod Compiling
pub mod Descended
