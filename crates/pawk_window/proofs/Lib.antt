pub mod CutLemmas
pub mod WindowLemmas
pub mod PlaceLemmas
