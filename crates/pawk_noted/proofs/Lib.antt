pub mod NotingLemmas
pub mod TracingLemmas
