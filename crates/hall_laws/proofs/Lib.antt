pub mod Cursors
pub mod Nodes
pub mod Configurations
pub mod ReadTrees
pub mod ReadLeaves
pub mod TermKinds
pub mod ReadComponents
pub mod Starts
