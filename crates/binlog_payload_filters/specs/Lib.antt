pub mod PartConcerns
pub mod Payloads
pub mod Taking
pub mod Filtering
pub mod PartFiltering
pub mod Shown
pub mod Copies
