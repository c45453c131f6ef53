pub mod Spells
pub mod Programs
pub mod Items
pub mod Reads
