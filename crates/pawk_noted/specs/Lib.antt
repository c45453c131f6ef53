pub mod Reports
pub mod Noteds
