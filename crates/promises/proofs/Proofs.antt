pub mod Meets
pub mod Peripheral
pub mod Wires
pub mod Lifted
pub mod Contracts
pub mod Bridge
pub mod Promises
