pub mod GtidItems
pub mod GroupLines
pub mod GtidListing
pub mod MariaItems
pub mod MariaLines
pub mod LogItems
pub mod LogLines
