pub mod Parts
pub mod Lines
pub mod SameRows
pub mod Events
pub mod Shown
pub mod ReadRows
pub mod Refused
pub mod WholeLines
