pub mod Kinds
pub mod Switches
pub mod Noted
pub mod Settled
