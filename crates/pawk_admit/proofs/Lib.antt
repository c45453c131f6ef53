mod Appends
mod Closures
mod MarkLaws
mod MarkTables
mod ReasonLaws
mod RoleLaws
mod Shapes
pub mod Suiting
