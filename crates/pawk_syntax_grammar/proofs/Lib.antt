pub mod Building
pub mod ItemBuilding
pub mod TreeBrackets
pub mod ProgramBrackets
pub mod DerivedTrees
pub mod DerivedPrograms
pub mod CanonicalTokens
pub mod Readings
