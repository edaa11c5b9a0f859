pub mod Coded
pub mod Facts
pub mod Packing
