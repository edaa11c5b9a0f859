pub mod Registers
pub mod Fields
pub mod Masks
pub mod Sizes
pub mod Laws
pub mod Layout
