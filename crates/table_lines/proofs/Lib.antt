pub mod Before
pub mod Lines
pub mod Pieces
