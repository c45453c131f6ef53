pub mod StreamLemmas
pub mod TurnsLemmas
pub mod RunLemmas
pub mod RouteLemmas
