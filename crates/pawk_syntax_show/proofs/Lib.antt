pub mod Keys
pub mod Operators
pub mod WritableTree
pub mod WritableProgram
pub mod TreeCut
pub mod ProgramCut
