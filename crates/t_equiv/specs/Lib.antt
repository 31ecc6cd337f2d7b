pub mod Images
pub mod Implications
pub mod StepsById
pub mod Substituting
pub mod Pooling
pub mod Substitutions
pub mod Equivalences
