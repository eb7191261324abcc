pub mod Requests
pub mod Positions
pub mod Reports
pub mod Outputs
pub mod Reading
pub mod Rests
pub mod FollowedEnds
pub mod StandardOutput
