pub mod Oracles
pub mod Asking
pub mod Trimming
pub mod PairCores
pub mod Hardening
pub mod Underway
