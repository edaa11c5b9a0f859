pub mod Numbers
pub mod Rows
pub mod Needs
pub mod Decode
pub mod Laws
pub mod Facts
pub mod Refused
pub mod Prefix
