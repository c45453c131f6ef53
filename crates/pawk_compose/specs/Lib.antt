pub mod Compositions
pub mod Lending
