pub mod Widths
pub mod Possible
pub mod Signs
pub mod Facts
pub mod Tables
pub mod Contradictions
