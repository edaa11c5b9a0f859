pub mod Met
pub mod Proof
