pub mod Parts
pub mod Refusals
pub mod Writing
pub mod Reading
