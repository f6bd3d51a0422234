pub mod TokenReplies
pub mod TokenMoves
pub mod TokenPuts
pub mod TokenTakes
