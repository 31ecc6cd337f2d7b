pub mod Modes
pub mod CommandLines
pub mod Parsed
pub mod Reading
pub mod Commands
