pub mod Failed
pub mod Pairs
pub mod Propagating
pub mod Partners
pub mod Taking
