pub mod Routes
pub mod Cuttings
pub mod Prologue
pub use Rattle.pawk_board.specs.Limits
