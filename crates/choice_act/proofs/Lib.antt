pub mod Occupancy
pub mod ActReplies
pub mod ActMoves
