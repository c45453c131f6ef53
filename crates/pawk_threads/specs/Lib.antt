pub use Rattle.pawk_sequential.specs.RunEnds
pub use Rattle.pawk_sequential.specs.declared.ending.Ending
