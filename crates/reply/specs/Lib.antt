pub mod Written
pub mod Packets
