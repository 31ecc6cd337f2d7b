pub mod Workload
pub mod SummaryText
