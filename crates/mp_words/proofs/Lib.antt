pub mod Names
pub mod Walks
pub mod Taken
pub mod Readings
pub mod OneCommand
pub mod Chosen
