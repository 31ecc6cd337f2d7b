pub mod Weighed
pub mod LabelPlaces
pub mod PairClauses
pub mod Choices
pub mod Pairs
pub mod Joined
pub mod Joins
pub mod Rounds
