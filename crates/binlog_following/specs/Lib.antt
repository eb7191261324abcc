pub mod Files
pub mod CheckedFiles
pub mod Readings
