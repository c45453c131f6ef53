pub mod Joins
pub mod Tables
pub mod JoinLaws
pub mod Stops
pub mod Merges
pub mod MergeViews
pub mod Extents
pub mod ExtentViews
