pub mod Refused
pub mod Facts
pub mod Prefix
