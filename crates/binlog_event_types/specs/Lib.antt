pub mod MysqlNames
pub mod MariaNames
pub mod NamesOfNumbers
pub mod TypeNames
pub mod MariaVersions
