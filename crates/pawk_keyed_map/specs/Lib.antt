pub mod Hashing
pub mod Keyed
pub mod Keys
pub mod Pairs
