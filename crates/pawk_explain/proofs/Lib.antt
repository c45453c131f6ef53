mod ColumnLemmas
mod PlaceLemmas
mod ReadingLemmas
