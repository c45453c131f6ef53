pub mod Slots
pub mod Tables
pub mod Scopes
pub mod ScopeViews
pub mod Sorted
pub mod Resolved
pub mod ResolvedStatements
pub mod ResolvedPrograms
