pub mod Limits
pub mod Records
pub mod Lines
pub mod Splitting
pub mod Views
