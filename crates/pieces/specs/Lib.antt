pub mod Marks
pub mod MarkLaws
pub mod Pieces
pub mod Blocks
pub mod Edges
pub mod Laws
