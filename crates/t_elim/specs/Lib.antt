pub mod Eliminating
pub mod Resolving
pub mod Resolved
pub mod Stayed
