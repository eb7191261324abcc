pub mod Tables
pub mod Codes
pub mod EventTypes
pub mod EventTypeLaws
pub mod Flags
pub mod StatementCodes
pub mod StatusVarKeys
pub mod Versions
