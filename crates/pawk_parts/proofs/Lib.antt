pub mod LineLemmas
pub mod MarkLemmas
pub mod SlotLemmas
pub mod RefusalLemmas
pub mod UnsaidLemmas
pub mod FrontLemmas
pub mod ArrayLemmas
