pub mod ShownRows
mod TableLines
mod GroupingNames
mod UnitCounts
mod IntervalLines
mod TransactionLines
mod Powers
mod TypeLines
mod InnerLines
mod StatsRows
mod StatsTimes
mod WholeStats
