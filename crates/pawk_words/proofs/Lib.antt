pub mod Numerals
pub mod Fronts
pub mod FirstBytes
pub mod Parts
pub mod Readings
pub mod WordLaws
