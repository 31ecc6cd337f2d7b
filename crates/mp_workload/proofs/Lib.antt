pub mod Generated
pub mod Colouring
