pub mod MarkLemmas
pub mod KeyLemmas
pub mod NotingLemmas
pub mod SlotLemmas
pub mod TableLemmas
pub mod SumLemmas
