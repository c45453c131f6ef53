pub mod Weights
pub mod Rows
pub mod Shapes
pub mod AppendedText
pub mod Bodies
pub mod Turns
pub mod Calls
