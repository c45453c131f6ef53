pub mod EndLemmas
pub mod TotalLemmas
pub mod SizedLemmas
