pub mod BeginLemmas
pub mod RouteLemmas
pub mod MergedLemmas
pub mod OutputLemmas
pub mod AllowedLemmas
