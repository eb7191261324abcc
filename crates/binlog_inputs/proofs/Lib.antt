pub mod Reporting
pub mod TakenFiles
pub mod FollowedFiles
pub mod Rests
pub mod NamesSoFar
