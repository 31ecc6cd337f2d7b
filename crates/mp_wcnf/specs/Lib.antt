pub mod Grammar
pub mod Meaning
pub mod Reading
pub mod Refusals
pub mod Writing
