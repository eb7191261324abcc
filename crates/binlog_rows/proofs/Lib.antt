pub mod ColumnsLeft
