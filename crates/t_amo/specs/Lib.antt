pub mod Labels
pub mod AtMostOnes
pub mod Choosing
pub mod Joining
