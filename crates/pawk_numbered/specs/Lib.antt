pub mod Mentions
pub mod Laws
