pub mod StateLemmas
pub mod WorkerLemmas
pub mod GatheringLemmas
pub mod OrderLemmas
pub mod States
pub mod Tasks
