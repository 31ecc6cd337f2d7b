pub mod Commands
pub mod Drawn
pub mod Copying
