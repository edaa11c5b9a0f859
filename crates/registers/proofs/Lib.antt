pub mod Masks
pub mod Sizes
pub mod Laws
pub mod Fields
