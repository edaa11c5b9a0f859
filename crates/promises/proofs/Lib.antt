pub mod Proofs
