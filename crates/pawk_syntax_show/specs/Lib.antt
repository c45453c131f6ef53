pub mod TreeText
pub mod ProgramText
pub mod Lengthening
