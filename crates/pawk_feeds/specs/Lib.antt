pub mod Feeds
pub mod Streams
