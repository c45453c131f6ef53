pub mod LeftLemmas
mod RunLemmas
pub mod FinishLemmas
