-- Laws of the definitions of this crate, by topic.
pub mod EntryReading
pub mod Gtids
pub mod OptionalTags
pub mod PreviousGtids
pub mod ReadGtids
pub mod Tagged
pub mod TaggedBounds
pub mod TaggedFields
pub mod TaggedReading
pub mod TaggedValues
pub mod TaggedWriting
pub mod Taking
pub mod Untagged
pub mod UntaggedWriting
pub mod Writable
