pub mod ArrayLemmas
pub mod StopLemmas
pub mod SlotLemmas
pub mod LawLemmas
pub mod MergeLemmas
pub mod ExtentLemmas
