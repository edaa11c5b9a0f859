pub mod Transitions
pub mod Changes
pub mod WholePacket
