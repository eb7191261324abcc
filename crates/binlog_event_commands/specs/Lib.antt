pub mod Copying
pub mod Gtids
pub mod Verifying
pub mod Commands
pub mod Changes
pub mod Columns
