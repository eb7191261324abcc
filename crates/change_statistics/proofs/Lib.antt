mod MoreCounted
mod Transactions
pub mod NamedTables
pub mod HeldTables
mod Numbers
mod CountedEvents
pub mod HeldIntervals
mod SortedTransactions
mod SizeClasses
mod CountedTables
mod GrownTransactions
pub mod HeldTransactions
pub mod CountedTypes
pub mod WrittenTexts
pub mod WrittenLists
