pub mod Openings
pub mod Task
pub mod Worker
pub mod Shifts
pub use Rattle.pawk_merge_law.specs.Chunks
