pub mod Writing
pub mod Fronts
pub mod HeaderLemmas
pub mod SectionLemmas
pub mod DigestLemmas
pub mod FileLemmas
