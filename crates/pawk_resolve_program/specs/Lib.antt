pub mod Codes
pub mod FirstSlots
