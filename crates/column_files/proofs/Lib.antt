pub mod Encodings
pub mod FieldTexts
pub mod Numbers
pub mod Headers
pub mod Lines
pub mod MemberSpellings
pub mod MemberTexts
pub mod Readings
pub mod Spellings
pub mod TableColumns
mod TextPositions
mod Refusals
