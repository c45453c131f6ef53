pub mod Courses
pub mod Maps
pub mod Orders
pub mod Parted
pub mod Readings
pub mod Runs
pub mod Sections
