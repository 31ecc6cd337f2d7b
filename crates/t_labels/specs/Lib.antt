pub mod Labels
pub mod Covers
pub mod Lowering
pub mod Near
pub mod Groups
pub mod Grouping
