pub mod TransactionBegin
pub mod TransactionEnd
