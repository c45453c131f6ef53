pub mod Blind
pub mod InExpressions
pub mod InStatements
pub mod InRecords
