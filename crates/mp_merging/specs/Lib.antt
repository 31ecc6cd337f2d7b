pub mod MergedForm
pub mod Tables
