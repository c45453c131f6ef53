pub mod LaterLemmas
pub mod PartLemmas
pub mod KeptLemmas
pub mod TableLemmas
pub mod RunLemmas
pub mod RefusalLemmas
pub mod WholeLemmas
pub mod CarryLemmas
