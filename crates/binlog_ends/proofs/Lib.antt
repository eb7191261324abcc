pub mod Rising
pub mod Written
