pub mod LayoutLaws
pub mod VariableLaws
pub mod Putting
