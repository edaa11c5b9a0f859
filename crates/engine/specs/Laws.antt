-- Laws by which the engine's functions meet their contracts: a stage's return from what its callees ensure, in the code's order.
pub mod Tests
pub mod Peripheral
pub mod Wires
pub mod Stored
pub mod Loaded
pub mod Exchange
