pub mod Yields
pub mod Moments
pub mod Ready
pub mod Joined
pub mod Plain
pub mod Appending
pub mod Texts
