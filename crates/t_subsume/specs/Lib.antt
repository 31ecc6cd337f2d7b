pub mod Containment
pub mod Subsumption
pub mod Strengthening
pub mod Shortening
pub mod Filtering
pub mod Nearness
