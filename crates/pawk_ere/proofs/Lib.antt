pub mod Keeping
pub mod Literals
pub mod Needed
pub mod Runs
