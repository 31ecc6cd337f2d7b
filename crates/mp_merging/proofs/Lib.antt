pub mod Tests
pub mod Tabled
pub mod Merged
pub mod Restoring
pub mod Numbered
pub mod Presenting
pub mod Forming
