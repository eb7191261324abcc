pub mod ClassCounts
pub mod Classes
pub mod ColumnSets
pub mod Columns
pub mod FactsSoFar
pub mod FieldItems
pub mod Fields
mod MembersLeft
pub mod NameTexts
pub mod OneWay
mod OtherFields
pub mod Sequences
mod StringLengths
pub mod ToEnd
