pub mod Buffers
pub mod Tokens
pub mod Lines
pub mod Passed
pub mod Marks
pub mod Moments
pub mod Decimals
pub mod Keys
