pub mod Cuts
pub mod Weights
pub mod Rising
pub mod Keyed
pub mod Histories
pub mod Calls
pub mod Steps
pub mod Moves
