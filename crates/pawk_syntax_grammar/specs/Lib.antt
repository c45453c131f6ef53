pub mod Views
pub mod Reads
pub mod StatementReads
pub mod Heights
pub mod ItemReads
pub mod Brackets
pub mod Expressions
pub mod ExpressionReads
