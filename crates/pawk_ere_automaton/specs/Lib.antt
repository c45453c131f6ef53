pub mod Regex
pub mod Marks
pub mod Members
pub mod Tree
pub mod Expand
pub mod Hints
pub mod Table
pub mod Misses
