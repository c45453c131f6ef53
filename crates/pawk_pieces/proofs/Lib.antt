pub mod OperandLemmas
pub mod PlainLemmas
pub mod MergedLemmas
pub mod BeginLemmas
pub mod FinishLemmas
pub mod NumberedLemmas
