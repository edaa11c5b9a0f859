pub mod Lifted
pub mod Words
pub mod Promises
pub mod Contracts
