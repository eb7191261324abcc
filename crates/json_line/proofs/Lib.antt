pub mod Digits
pub mod BufferTexts
pub mod Texts
pub mod OneMore
pub mod PlainTexts
pub mod Members
pub mod Passed
pub mod StatedTexts
mod Marks
pub mod PlainMoments
pub mod Decimals
pub mod PlacedPlain
mod CopiedMembers
pub mod PlacedInPart
