pub mod Apart
pub mod Steps
pub mod Numbers
pub mod Parts
pub mod Joined
pub mod Told
