pub mod EntriesLemmas
pub mod PairsLemmas
