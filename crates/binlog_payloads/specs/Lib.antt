pub mod Results
pub mod Fields
pub mod Events
pub mod Contents
pub mod Writing
pub mod InnerEvents
pub mod Decompressed
