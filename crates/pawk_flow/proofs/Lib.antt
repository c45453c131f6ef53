pub mod PieceLemmas
pub mod NotingLemmas
pub mod FarLemmas
