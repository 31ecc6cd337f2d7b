pub mod Embedding
pub mod Subsuming
pub mod Flipping
pub mod Strengthened
pub mod Parts
pub mod Remembering
pub mod Filtered
pub mod Nearby
