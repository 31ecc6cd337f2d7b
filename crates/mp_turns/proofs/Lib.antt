pub mod Queueing
pub mod Pacing
pub mod ClausePlaces
pub mod Replacing
pub mod Shrinking
pub mod Subsets
pub mod OwnIdle
pub mod FixedOne
