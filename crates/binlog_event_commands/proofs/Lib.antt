pub mod ColumnFiles
pub mod FileEnds
