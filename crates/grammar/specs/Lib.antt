pub mod Tree
pub mod Render
pub mod Depth
pub mod Automaton
pub mod Laws
pub mod Openings
pub mod Places
pub mod Borders
