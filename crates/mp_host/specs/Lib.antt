pub mod Desk
pub mod Files
pub mod Quiet
pub mod Real
pub mod Whole
pub mod World
