pub mod GnoSets
pub mod GnoDifferences
