pub mod Statuses
pub mod Outputs
pub mod Times
pub mod GtidWords
pub mod TableWords
pub mod FilterWords
