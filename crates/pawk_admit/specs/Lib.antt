pub mod Roles
pub mod Occurrences
pub mod Reaches
pub mod Admission
pub mod Marks
pub mod Decisions
