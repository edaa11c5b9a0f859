pub mod Kinds
pub mod Format
pub mod Statements
pub mod Laws
pub mod Tables
pub mod Entries
pub mod Answers
