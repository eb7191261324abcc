pub mod Loads
pub mod SignedNumbers
pub mod DigitTexts
pub mod TextFronts
pub mod DecimalTexts
pub mod ShownDigits
mod GroupLists
mod DecimalDigits
