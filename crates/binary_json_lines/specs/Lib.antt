pub mod HasText
pub mod Digits
pub mod Times
pub mod Opaques
pub mod Parts
pub mod Documents
pub mod Diffs
pub mod TextDiffs
