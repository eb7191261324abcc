pub mod Places
pub mod Counting
pub mod FollowedMaps
pub mod Visited
pub mod Listed
pub mod SliceListed
pub mod OtherChecksums
pub mod OtherListings
