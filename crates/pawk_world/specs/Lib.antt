pub mod Halts
pub mod Sums
pub mod Worlds
pub mod Answers
pub mod Writings
