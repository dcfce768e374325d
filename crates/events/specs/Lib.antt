pub mod Event
pub mod Descent
pub mod Noting
pub mod Notes
pub mod Laws
