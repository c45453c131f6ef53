pub mod RequestLemmas
pub mod StreamLemmas
pub mod WritingLemmas
