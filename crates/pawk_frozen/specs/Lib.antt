pub mod Marks
pub mod Frozens
pub mod MarkViews
pub mod MarkLending
