pub mod Needs
pub mod Passages
