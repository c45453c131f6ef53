pub mod LineLemmas
pub mod LaidLemmas
pub mod SplittingLemmas
pub mod ViewLemmas
pub mod JoinLemmas
