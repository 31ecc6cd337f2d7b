pub mod Fronts
pub mod Lines
pub mod Numbers
pub mod Slices
pub mod Spelling
pub mod Tokens
pub mod Writing
