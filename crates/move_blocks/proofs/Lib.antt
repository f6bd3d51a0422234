pub mod BlockMoves
pub mod TransactionBegin
pub mod EndLeaves
pub mod EndReplies
pub mod TransactionEnd
