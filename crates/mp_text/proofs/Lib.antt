pub mod Decimal
pub mod Lines
pub mod Slices
pub mod Spelled
pub mod Steps
