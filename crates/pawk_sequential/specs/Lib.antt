pub mod Ends
pub mod RunEnds
