pub mod KeyLemmas
pub mod KeptLemmas
pub mod TableLemmas
