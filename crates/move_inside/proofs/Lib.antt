-- The laws of finding and of making a move inside a transaction.
pub mod LeafBytes
pub mod NodeRedexes
pub mod RedexRules
pub mod NodeReplies
pub mod MoveParts
pub mod RuleLinks
pub mod RedexMoves
