pub mod Operands
pub mod Pieces
pub mod Begins
pub mod Merged
pub use Rattle.pawk_sequential.specs.Ends
pub use Rattle.pawk_sequential.specs.declared.job.Job
