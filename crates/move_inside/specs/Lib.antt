pub mod LeafBytes
pub mod FoundMoves
pub mod MadeMoves
