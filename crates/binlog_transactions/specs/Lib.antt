pub mod DataMarks
pub mod Pieces
pub mod Roles
pub mod Statements
pub mod Tables
