pub mod NumberWords
pub mod LinePieces
