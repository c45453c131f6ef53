pub mod Joining
pub mod Putting
pub mod Pushing
pub mod Appending
pub mod Filling
pub mod ElementShapes
