pub mod Turns
pub mod Powers
pub mod Table18
pub mod Residue
pub mod Steps
