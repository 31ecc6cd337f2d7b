pub mod Rested
pub mod Touching
