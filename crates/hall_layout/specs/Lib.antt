pub mod Layout
pub mod Nodes
