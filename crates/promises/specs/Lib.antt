pub mod ByteRuns
pub mod Statements
