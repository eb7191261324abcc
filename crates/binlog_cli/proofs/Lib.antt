mod NamedTypes
mod CivilInstants
pub mod TableNames
