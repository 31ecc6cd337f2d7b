pub mod BlockedClauses
pub mod Dropping
pub mod Stopping
pub mod Untouched
