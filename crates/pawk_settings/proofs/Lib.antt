pub mod ValueLemmas
pub mod AnswerLemmas
pub mod ValueLawLemmas
