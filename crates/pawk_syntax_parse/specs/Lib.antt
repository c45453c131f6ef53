pub mod Reads
pub mod Heights
pub mod Nests
pub mod Starts
