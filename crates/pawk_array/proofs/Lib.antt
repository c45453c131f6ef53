pub use Rattle.pawk_keyed_map.proofs.EntriesLemmas
pub use Rattle.pawk_keyed_map.proofs.PairsLemmas
pub mod KeysLemmas
pub mod LawLemmas
pub mod PiecesLemmas
pub mod NumbersLemmas
pub mod ElementLemmas
pub mod HeadLemmas
