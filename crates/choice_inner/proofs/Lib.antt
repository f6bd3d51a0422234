pub mod InsideReplies
pub mod InsideMoves
