pub mod Logs
pub mod Leaves
pub mod Nodes
