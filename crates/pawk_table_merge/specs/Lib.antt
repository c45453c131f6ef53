pub mod TableMerges
pub mod Sections
pub mod Later
pub mod Runs
