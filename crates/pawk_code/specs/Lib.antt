pub mod Expressions
pub mod ExpressionViews
pub mod Calm
pub mod Statements
pub mod StatementViews
pub mod Programs
pub mod ProgramViews
pub mod FirstSlots
