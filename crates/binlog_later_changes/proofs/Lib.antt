pub mod RowKeys
pub mod KnownRows
pub mod RowsLeft
mod Apart
mod LaterLists
mod HeldTables
mod LeftPlaces
pub mod SeenLogs
mod SeenEvents
pub mod SeenRows
