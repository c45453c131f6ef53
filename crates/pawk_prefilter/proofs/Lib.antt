pub mod IdleLemmas
pub mod PassLemmas
mod PassageLemmas
