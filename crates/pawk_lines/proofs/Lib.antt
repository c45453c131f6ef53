pub mod Turns
pub mod NameLemmas
pub mod NumberLemmas
pub mod Forms
pub mod WordLemmas
pub mod WriteLemmas
pub mod LineLaws
pub mod ElementLemmas
