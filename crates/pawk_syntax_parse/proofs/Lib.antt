pub mod Lines
pub mod Building
pub mod Turns
pub mod Starts
