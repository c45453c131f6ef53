pub mod SizeLemmas
pub mod PlaceLemmas
pub mod CountLemmas
