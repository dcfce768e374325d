pub mod Records
pub mod Sound
pub mod Sparse
