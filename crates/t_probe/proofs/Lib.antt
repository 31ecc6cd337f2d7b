pub mod Covering
pub mod Together
pub mod Steps
pub mod Calls
pub mod Rows
pub mod Hardened
