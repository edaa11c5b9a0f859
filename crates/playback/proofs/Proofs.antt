pub mod Told
pub mod Spelt
